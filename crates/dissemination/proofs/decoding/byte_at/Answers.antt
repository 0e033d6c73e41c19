-- `decoding::byte_at` meets its contract.
use Rattle.std.proofs.Common.{ap, mod-lt, arith, lt-ltb, le-ltb, ◌∙◌, ℕ, ◌%◌, div-le_self}
use Rattle.dissemination.specs.Decoding.{stored_byte}
use Rattle.dissemination.proofs.decoding.byte_at.Goals as goal

pub returns-then-m-p : goal.returns-then-m-p
unfolding stored_byte
returns-then-m-p c = simp (le-ltb _ _ c.if-m-p.true)

pub overflow_cast-at-2 : goal.overflow_cast-at-2
overflow_cast-at-2 c = record { fits = omega (arith, div-le_self c.args.p c.args.size) }

pub overflow_mul-at : goal.overflow_mul-at
overflow_mul-at c = record { fits = omega (arith, div-le_self c.args.p c.args.size) }

pub overflow_cast-at-3 : goal.overflow_cast-at-3
overflow_cast-at-3 c = record { fits = omega (arith, mod-lt c.args.p c.requires) }

pub overflow_add-at : goal.overflow_add-at
overflow_add-at c = record { fits = omega (arith, div-le_self c.args.p c.args.size, mod-lt c.args.p c.requires) }

pub returns : goal.returns
unfolding stored_byte
returns c = ap (λ (v : ℕ). v % 256) c.value-v.ensures ∙ simp (lt-ltb _ _ c.if-m-p.false)
