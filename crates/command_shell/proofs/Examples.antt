-- Worked examples of the commands of a text. A definition that says another thing than docs/COMMANDS.md is refused
-- here.
use Rattle.std.proofs.Common.{◌≡◌, ℕ, List, [], ◌∷◌, ◌++◌, Bool, true, refl, sym, ap₂, ◌∙◌, pos}
use Rattle.std.proofs.Common.{codes, arith, subst}
use Rattle.std.proofs.Common.{take, drop}
use Rattle.plain_table.specs.Commands.Command.{Create, Load}
use Rattle.store_law.specs.States.{Request}
use Rattle.store_law.specs.States.Request.{BadCommand, Asks}
use Rattle.plain_table.specs.declared.boxes.RawBox.TheVariants.{Two}
use Rattle.command_language.specs.Entries.{objects_in}
use Rattle.command_shell.specs.TextCommands.{AreCommands, AsksAlone, load_request}
use Rattle.command_shell.specs.TextCommands.AreCommands.{load, none, one, short}
use Rattle.command_language.specs.Lines.{lines_of}
use Rattle.command_language.specs.Meanings.{Meaning, meaning_of}
use Rattle.command_language.specs.Meanings.Meaning.{Blank, Bad, Loads, Means}

abbrev a : List ℕ
a = codes "a"

abbrev b : List ℕ
b = codes "b"

-- the last line has no newline, and a comment and an empty line ask nothing
a_text_asks_line_by_line : AreCommands true (lines_of (codes "create a 2 4\n# more\n\ndrops a\ncreate b 3 5")) (Asks (Create a 2 4) ∷ BadCommand ∷ Asks (Create b 3 5) ∷ [])
a_text_asks_line_by_line =
    one (Asks (Create a 2 4) ∷ []) refl
    (one [] refl (one [] refl (one (BadCommand ∷ []) refl (one (Asks (Create b 3 5) ∷ []) refl none))))

a_load_takes_its_entry_lines : AreCommands true (lines_of (codes "load a 1\n7 1 2 3 4\ncreate b 3 5")) (Asks (Load a ((7, Two (pos 1 ∷ pos 2 ∷ []) (pos 3 ∷ pos 4 ∷ []), 0) ∷ [])) ∷ Asks (Create b 3 5) ∷ [])
a_load_takes_its_entry_lines = load a 1 refl (omega arith) (one (Asks (Create b 3 5) ∷ []) refl none)

-- whatever they hold
a_bad_entry_line_makes_the_load_bad : AreCommands true (lines_of (codes "load a 2\ncreate b 3 5\n7 1 2 3 4")) (BadCommand ∷ [])
a_bad_entry_line_makes_the_load_bad = load a 2 refl (omega arith) none

a_load_that_lacks_entry_lines_is_bad : AreCommands true (lines_of (codes "load a 3\n7 1 2 3 4\n8 1 2 3 4")) (BadCommand ∷ [])
a_load_that_lacks_entry_lines_is_bad = short a 3 refl (omega arith) refl

no_text_asks_nothing : (ended : Bool) → AreCommands ended (lines_of []) []
no_text_asks_nothing ended = none

-- what a meaning asks by itself is one list
asked_alone : (m : Meaning) (rs ss : List Request) → AsksAlone m rs → AsksAlone m ss → rs ≡ ss
asked_alone Blank rs ss h g = h ∙ sym g
asked_alone Bad rs ss h g = h ∙ sym g
asked_alone (Means c) rs ss h g = h ∙ sym g
asked_alone (Loads layer count) rs ss h g = absurd h

-- lines ask one list of requests, and no other
pub one_reading : {ended : Bool} {lines : List (List ℕ)} {rs ss : List Request} → AreCommands ended lines rs
    → AreCommands ended lines ss → rs ≡ ss
one_reading none none = refl
one_reading (one {line = line} rs h p) (one ss g q) =
    ap₂ (λ x y. x ++ y) (asked_alone (meaning_of line) rs ss h g) (one_reading p q)
one_reading (one {line = line} rs h p) (load layer count means enough q) =
    absurd (subst (λ m. AsksAlone m rs) means h)
one_reading (one {line = line} rs h p) (short layer count means few last) =
    absurd (subst (λ m. AsksAlone m rs) means h)
one_reading (load layer count means enough p) (one ss g q) = absurd (subst (λ m. AsksAlone m ss) means g)
one_reading {ended = ended} (load {line = line} {lines = lines} {ss = ts} layer count means enough p)
    (load other number reads _ q) =
    let layers : layer ≡ other = cc in
    let counts : count ≡ number = cc in
    ap₂ (λ x y. x ∷ y)
    (ap₂ (λ (l : List ℕ) (n : ℕ). load_request l (objects_in (take n lines))) layers counts)
    (one_reading (subst (λ (n : ℕ). AreCommands ended (drop n lines) ts) counts p) q)
one_reading (load layer count means enough p) (short other number reads few last) =
    let counts : count ≡ number = cc in absurd (omega (arith, enough, few, counts))
one_reading (short layer count means few last) (one ss g q) = absurd (subst (λ m. AsksAlone m ss) means g)
one_reading (short layer count means few last) (load other number reads enough q) =
    let counts : count ≡ number = cc in absurd (omega (arith, enough, few, counts))
one_reading (short layer count means few last) (short other number reads _ _) = refl
