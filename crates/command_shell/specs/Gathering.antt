-- What is gathered of a load while its entry lines are read.
use Rattle.std.specs.Prelude.{ℕ, ◌≡◌, ◌+◌, ◌<◌, Bool, true, false, List, [], ◌∷◌, ◌++◌, length, Option, Some, None}
use Rattle.std.specs.Prelude.{IsSome, Result, Ok, Err, is_none}
use Rattle.plain_table.specs.Loads.{GivenObjects}
use Rattle.command_language.specs.Entries.{first_bad, objects_in}
use Rattle.command_language.specs.Lines.{IsOneLine, lines_of}
use Rattle.command_language.specs.Reading.{Reads}
use Rattle.command_shell.specs.declared.loading.Gathered.{Gathered}
use Rattle.command_shell.specs.declared.loading.Gathering.{Gathering}
use Rattle.command_shell.specs.declared.loading.Gathering.TheVariants.{Full, Short, Broken}
use Rattle.command_shell.specs.declared.loading.Taken.{Taken}
use Rattle.command_shell.specs.declared.loading.Taken.TheVariants.{Line, Last, End}
use Rattle.command_shell.specs.declared.session.RunEnd.{RunEnd}

-- what the flags say: an entry line was bad; or the name and the objects are there; or there was no room for
-- all of them
abbrev pub Tells : Bool → Bool → List ℕ → GivenObjects → List ℕ → Option GivenObjects → Type 0
Tells false room name objects layer all = all ≡ None
Tells true true name objects layer all = (all ≡ Some objects) × (name ≡ layer)
Tells true false name objects layer all = IsSome all

-- what was gathered of a load into this layer with these entry lines so far
abbrev pub IsGathered : {A : Type 0} → Gathered A → List ℕ → List (List ℕ) → Type 0
IsGathered g layer lines =
    (g.bad_entry ≡ first_bad lines)
    × Tells (is_none g.bad_entry) g.room g.layer.items g.objects.items layer (objects_in lines)

-- an entry line was taken, and gathered as the one at this place
pub record TakesLine {A : Type 0} (place : ℕ) (ended : Bool) (old new : Gathered A)
    (before after : Option (List ℕ)) (pending left : List ℕ) : Type 0 where
  pub text : List ℕ
  pub line : List ℕ
  pub reads : Reads ended before after pending left text
  pub is_line : lines_of text ≡ line ∷ []
  pub gathers : (layer : List ℕ) (lines : List (List ℕ)) → IsGathered old layer lines
      → place ≡ length lines + 1 → IsGathered new layer (lines ++ line ∷ [])

-- bytes of an entry line were read at most, and none was taken
pub record TakesNone (before after : Option (List ℕ)) (pending : List ℕ) : Type 0 where
  pub unread : List ℕ
  pub one_line : IsOneLine unread
  pub reads : Reads false before after pending unread []

-- what was taken at this place: a line with its newline, or the last one without; or the text has ended, or
-- could not be read further
abbrev pub TakesEntry : {A : Type 0} → Result Taken RunEnd → ℕ → Gathered A → Gathered A → Option (List ℕ)
    → Option (List ℕ) → List ℕ → List ℕ → Type 0
TakesEntry (Ok Line) place old new before after pending left =
    TakesLine place false old new before after pending left
TakesEntry (Ok Last) place old new before after pending left =
    TakesLine place true old new before after pending left
TakesEntry (Ok End) place old new before after pending left =
    (new ≡ old) × Reads true before after pending left []
TakesEntry (Err end) place old new before after pending left = TakesNone before after pending

-- so many entry lines were taken, and gathered
pub record TakesAll {A : Type 0} (count : ℕ) (ended : Bool) (old new : Gathered A)
    (before after : Option (List ℕ)) (pending left : List ℕ) : Type 0 where
  pub text : List ℕ
  pub reads : Reads ended before after pending left text
  pub count_is : length (lines_of text) ≡ count
  pub gathers : (layer : List ℕ) → IsGathered old layer [] → IsGathered new layer (lines_of text)

-- fewer were there when the text ended, and gathered
pub record TakesFewer {A : Type 0} (count : ℕ) (old new : Gathered A) (before after : Option (List ℕ))
    (pending left : List ℕ) : Type 0 where
  pub text : List ℕ
  pub reads : Reads true before after pending left text
  pub few : length (lines_of text) < count
  pub gathers : (layer : List ℕ) → IsGathered old layer [] → IsGathered new layer (lines_of text)

-- fewer whole ones were there when the text could not be read further
pub record TakesPart (count : ℕ) (before after : Option (List ℕ)) (pending : List ℕ) : Type 0 where
  pub entries : List ℕ
  pub unread : List ℕ
  pub reads : Reads false before after pending unread entries
  pub few : length (lines_of entries) < count
  pub one_line : IsOneLine unread

abbrev pub GathersTo : {A : Type 0} → Gathering → ℕ → Gathered A → Gathered A → Option (List ℕ)
    → Option (List ℕ) → List ℕ → List ℕ → Type 0
GathersTo (Full ended) count old new before after pending left =
    TakesAll count ended old new before after pending left
GathersTo Short count old new before after pending left =
    TakesFewer count old new before after pending left
GathersTo (Broken end) count old new before after pending left = TakesPart count before after pending
