-- Laws of what a stop leaves of a base behind a mark, as it is shown.
use Rattle.std.proofs.Common.{◌≡◌, ℕ, refl, sym, subst}
use Rattle.std.specs.List.{All}
use Rattle.block_device.specs.Device.{Blocks, IsBlock, Torn}
use Rattle.device_pair.specs.Pairs.{BaseFollows}
use Rattle.marked_pair.specs.Mark.{unmarked}
use Rattle.marked_pair.specs.MarkLaws.{unmarked_torn, unmarked_whole}
use Rattle.marked_pair.specs.Shown.{Shown}

-- a write of the base
pub shown_base_follows : (i : ℕ) (old new : Blocks → Blocks → Type 0) → BaseFollows (Torn i) old new
    → BaseFollows (Torn i) (Shown old) (Shown new)
shown_base_follows i old new follows a b left =
    let from = follows left.0 b left.1 in (
      unmarked from.0,
      (from.0, from.1, refl),
      subst (Torn i (unmarked from.0)) (sym left.2) (unmarked_torn i from.0 left.0 from.2),
    )

-- blocks are shown as blocks
pub shown_whole : (c a : Blocks) → a ≡ unmarked c → All IsBlock c → All IsBlock a
shown_whole c a e all = subst (All IsBlock) (sym e) (unmarked_whole c all)
