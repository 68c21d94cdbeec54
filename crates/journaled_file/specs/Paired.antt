-- What a base and its journal are once they were paired for a run (our format, docs/FORMAT.md, "The journal",
-- "Files").
use Rattle.std.specs.Prelude.{◌≡◌, ◌<◌, ◌≤◌, ◌+◌, ◌⊎◌, ◌↔◌, ℕ, Bool, true, false, List, [], length}
use Rattle.block_bytes.specs.Numbers.{zeros}
use Rattle.block_device.specs.Device.{Blocks, block_at}
use Rattle.committed_log.specs.Log.{homes_in, says}
use Rattle.journaled_file.specs.Ending.{GateTorn}
use Rattle.journaled_file.specs.Gate.{shut}
use Rattle.journaled_file.specs.Judged.{IsJudged, IsOf}
use Rattle.journaled_file.specs.Opened.{read_of}
use Rattle.journaled_file.specs.declared.judging.Found.TheVariants.{Ended, Fresh, Own, Unended}
use Rattle.marked_pair.specs.Mark.{unmarked, IsMarked}
use Rattle.titled_pair.specs.Title.{title_of, untitled}

-- a journal that has nothing but the title of this base
pub record IsNew (a e : Blocks) : Type 0 where
  pub room : length e ≡ 2
  pub title : block_at 0 e ≡ title_of a
  pub end : block_at 1 e ≡ zeros

-- a stop at some moment since the files were paired might have left a journal without blocks: what is in it was
-- written since then
pub record HasBegunEmpty (now : ℕ) (left_since : ℕ → Blocks → Blocks → Type 0) : Type 0 where
  pub moment : ℕ
  pub past : moment ≤ now
  pub base : Blocks
  pub left : left_since moment base []

-- a journal with this title and this end, and a region behind them that is committed
pub record IsAnew (title end : List ℕ) (e : Blocks) : Type 0 where
  pub title_is : block_at 0 e ≡ title
  pub end_is : block_at 1 e ≡ end
  pub room : 4 < length e
  pub complete : says (block_at 2 e) ≡ true

-- of a base that had the mark, and beside a journal whose title is of it, the gate is another block than it was
abbrev pub IsMarkedAnew : Blocks → Blocks → Blocks → Type 0
IsMarkedAnew was a e = IsMarked was → 2 ≤ length was → IsOf was e → ¬ (block_at 0 a ≡ block_at 0 was)

-- Of a base that was `was`: it is as it was, its mark aside, with its own journal, which has a commit to bring back.
pub record IsRewritten (was a e : Blocks) : Type 0 where
  pub shown : unmarked a ≡ unmarked was
  pub own : IsJudged Own a e
  pub sure : IsMarkedAnew was a e

-- No more was begun in a journal than committed: behind its commits stand at most the flag and the count of another.
abbrev pub HasBegunNoMore : Blocks → Type 0
HasBegunNoMore journal = length (untitled journal) ≤ length (homes_in (untitled journal)) + 2

-- the gate of a base is shut, and the rest is as it was; one without blocks has no gate, and gets none
abbrev pub IsShut : Blocks → Blocks → Type 0
IsShut was a = a ≡ shut was

-- The base's own journal had a commit to bring back, and what is read of both stays. Whether the last run had not ended
-- is told by the mark, and that it had begun no more than it committed only where that is so.
pub record IsBroughtBack (was journal a e : Blocks) (unended begun : Bool) : Type 0 where
  pub found : IsJudged Own was journal
  pub read : read_of a e ≡ read_of was journal
  pub rewritten : IsRewritten was a e
  pub marked : (unended ≡ true) ↔ IsMarked was
  pub no_more : begun ≡ false → HasBegunNoMore journal

-- The journal that the base had brings nothing back: it is needless, and the base is as it was; or its session is
-- over, and the base is shut. That a session had not ended is told, and then that it may have begun more.
abbrev pub HadNothing : Blocks → Blocks → Blocks → Bool → Bool → Type 0
HadNothing was journal a unended begun = (begun ≡ unended) × (
    (IsJudged Fresh was journal × (a ≡ was) × (unended ≡ false))
    ⊎ (IsJudged Ended was journal × IsShut was a × (unended ≡ false))
    ⊎ (IsJudged Unended was journal × IsShut was a × (unended ≡ true)))

-- To what a base and the journal that it had are paired: what they have is brought back, or that is nothing, and the
-- base has a new journal. Beside a journal that is missing, or that of another base, nothing is paired.
abbrev pub IsPaired : Blocks → Blocks → Blocks → Blocks → Bool → Bool → Type 0
IsPaired was journal a e unended begun =
    IsBroughtBack was journal a e unended begun ⊎ (IsNew a e × HadNothing was journal a unended begun)

-- what a stop left before; or both as they were but for the gate, where the title is of the base
abbrev pub LeavesOwnGate : (Blocks → Blocks → Type 0) → Blocks → Blocks → Blocks → Blocks → Type 0
LeavesOwnGate outcomes base journal a e =
    outcomes a e ⊎ ((2 ≤ length base) × IsOf base journal × GateTorn outcomes a e)
