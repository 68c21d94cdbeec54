-- What a call answered, as a number. Our rule, docs/LIBRARY.md.
use Rattle.std.specs.Prelude.{ℕ, Result, Ok, Err}
use Rattle.plain_table.specs.Refusals.{refusal_number}
use Rattle.plain_table.specs.declared.refusal.Refusal.{Refusal}
use Rattle.plain_table.specs.declared.refusal.Refusal.TheVariants as refusal

-- 0, or the number of the refusal
abbrev pub number_of : {T : Type 0} → Result T Refusal → ℕ
number_of (Ok x) = 0
number_of (Err r) = refusal_number r

-- the number that comes with a refusal
abbrev pub detail_of : Refusal → ℕ
detail_of (refusal.DuplicateInLoad id) = id
detail_of (refusal.Damaged page) = page
detail_of (refusal.StoreFailed fault) = fault
detail_of r = 0

-- the one that is kept: of the refusal that was last
abbrev pub detail_after : {T : Type 0} → Result T Refusal → ℕ → ℕ
detail_after (Ok x) detail = detail
detail_after (Err r) detail = detail_of r
