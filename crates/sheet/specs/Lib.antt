-- A planner's sheet as bytes: document 01, "A whole wall" and "Refusals from the input".
-- Sheet: the definitions, its parts and its refusals in their order. Laws: what is known of a sheet that is accepted.
pub mod Sheet
pub mod Laws
