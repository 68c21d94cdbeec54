-- Insertions whose layer was found.
use Rattle.std.specs.Prelude.{ℕ, ◌≡◌, ◌⊎◌, true, List, Option, None, Some, Result, Ok, Err}
use Rattle.box_math.specs.Bounds.{Bounds}
use Rattle.plain_table.specs.Boxes.{dims_of, given_bounds}
use Rattle.plain_table.specs.Table.{Table, is_layer_name}
use Rattle.plain_table.specs.declared.boxes.RawBox.{RawBox}
use Rattle.plain_table.specs.declared.refusal.Refusal.{Refusal}
use Rattle.store_law.specs.Lawful.{IsFault}
use Rattle.live_layers.specs.Keeping.{Finds}

-- the layer of a good name stands at the place, and the box has these axes, lows and highs
pub record ReachesBox (t : Table) (name : List ℕ) (place : ℕ) (box : RawBox) (dims : ℕ)
    (bounds : Bounds) : Type 0 where
  pub good : is_layer_name name ≡ true
  pub finds : Finds t name place
  pub axes : dims_of box ≡ dims
  pub given : given_bounds box ≡ bounds

-- nothing refuses what is asked, or it is refused so, or by a fault
abbrev pub IsAllowedOr : {T : Type 0} → Type 0 → Option Refusal → Result T Refusal → Type 0
IsAllowedOr rose why (Ok x) = why ≡ None
IsAllowedOr rose why (Err r) = (why ≡ Some r) ⊎ IsFault rose r
