-- What the file that has the name of a base's journal is to the base (our format, docs/FORMAT.md, "The
-- journal", "Files").
use Rattle.std.specs.Prelude.{◌≡◌, ◌<◌, ◌≤◌, ◌⊎◌, true, length}
use Rattle.block_device.specs.Device.{Blocks, block_at}
use Rattle.committed_log.specs.Log.{says}
use Rattle.committed_log.specs.Opening.{IsMalformed}
use Rattle.journaled_file.specs.declared.judging.Found.{Found}
use Rattle.journaled_file.specs.declared.judging.Found.TheVariants.{Fresh, Own, Unended, Ended, Missing, Foreign}
use Rattle.marked_pair.specs.Mark.{unmarked, IsMarked}
use Rattle.titled_pair.specs.Title.{end_of, reads_title, title_of, title_text, untitled, with_text}

-- it begins with a title and an end
pub record IsJournal (e : Blocks) : Type 0 where
  pub room : 2 ≤ length e
  pub title : reads_title (block_at 0 e) ≡ true

-- its title, of whichever text, is of this base
abbrev pub IsOf : Blocks → Blocks → Type 0
IsOf a e = with_text title_text (block_at 0 e) ≡ title_of a

-- its end is of this base
abbrev pub HasEnded : Blocks → Blocks → Type 0
HasEnded a e = block_at 1 e ≡ end_of a

-- behind both it has had entries
abbrev pub HadEntries : Blocks → Type 0
HadEntries e = 4 < length e

-- and is complete
pub record HasEntries (e : Blocks) : Type 0 where
  pub room : HadEntries e
  pub complete : says (block_at 2 e) ≡ true

-- it has not ended, and a base without a mark needs nothing of it: it never had an entry, or is its own and
-- empty again
pub record IsNeedless (a e : Blocks) : Type 0 where
  pub journal : IsJournal e
  pub not_ended : ¬ HasEnded a e
  pub empty : (length e ≤ 4) ⊎ ((2 ≤ length a) × IsOf a e × ¬ HasEntries e)

-- what is so of a base and such a file, of which just one is
abbrev pub IsJudged : Found → Blocks → Blocks → Type 0
IsJudged Fresh a e = (¬ IsMarked a) × (((¬ IsJournal e) × (length e ≤ 2)) ⊎ IsNeedless a e)
IsJudged Own a e = IsJournal e × (¬ HasEnded a e) × HasEntries e × (IsMarked a ⊎ ((2 ≤ length a) × IsOf a e))
IsJudged Unended a e = IsJournal e × (¬ HasEnded a e) × IsMarked a × ¬ HasEntries e
IsJudged Ended a e = IsJournal e × HasEnded a e
IsJudged Missing a e = (¬ IsJournal e) × (IsMarked a ⊎ (2 < length e))
IsJudged Foreign a e = IsJournal e × (¬ HasEnded a e) × (¬ IsMarked a) × HadEntries e
    × ((length a < 2) ⊎ ¬ IsOf a e)

-- it has no title, or has entries beside a base without a header, or what stands behind its title is no
-- journal
abbrev pub IsNoJournal : Blocks → Blocks → Type 0
IsNoJournal a e = (length e < 2) ⊎ ((length a < 2) × (4 < length e)) ⊎ IsMalformed (unmarked a) (untitled e)
