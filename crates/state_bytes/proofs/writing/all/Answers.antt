-- `writing::all` meets its contract.
use Rattle.std.proofs.Common.{◌≡◌, ◌∙◌, refl, length, take, append_assoc, append-nil, arith}
use Rattle.lists.specs.Lists.{list_of}
use Rattle.lists.specs.Entries.{length_list_of}
use Rattle.state_bytes.specs.Layout.{Bytes, Agreements, Reports, Kept, offset, length_of, state_length, flag_byte, point_byte, part, joined, encode}
use Rattle.state_bytes.specs.Writing.{fronted_first, fronted_more, fronted_all}
use Rattle.state_bytes.proofs.writing.all.Goals as goal

pub returns : goal.returns
unfolding encode joined part
returns c =
    let a = c.args in
    let long : length a.state.now ≡ state_length = c.requires in
    let whole : length a.column.bytes ≡ 32 = c.well_formed.0.1.1.1.1.1.1.0.1.0.1 in
    let agreed : c.flag_bytes.result ≡ list_of (flag_byte a.column.agreements) 31 = c.flag_bytes.ensures in
    let reported : c.flag_bytes-2.result ≡ list_of (flag_byte a.column.reports) 31 = c.flag_bytes-2.ensures in
    let kept : c.point_bytes.result ≡ list_of (point_byte a.column.kept) 64 = c.point_bytes.ensures in
    let l1 = fronted_first (take (offset Bytes) (encode a.column)) _ _ _ (offset Bytes) c.numbers.ensures refl (omega arith) c.put.ensures.1 in
    let l2 = fronted_more _ a.column.bytes _ _ _ _ (offset Bytes) (length_of Bytes) l1 refl whole (omega arith) c.put-2.ensures.1 in
    let l3 = fronted_more _ _ _ _ _ _ (offset Agreements) (length_of Agreements) l2 agreed (length_list_of _ 31) (omega arith) c.put-3.ensures.1 in
    let l4 = fronted_more _ _ _ _ _ _ (offset Reports) (length_of Reports) l3 reported (length_list_of _ 31) (omega arith) c.put-4.ensures.1 in
    let l5 = fronted_more _ _ _ _ _ _ (offset Kept) (length_of Kept) l4 kept (length_list_of _ 64) (omega arith) c.put-5.ensures.1 in
    fronted_all _ _ _ state_length l5 (omega arith) ∙ simp (append_assoc, append-nil)
