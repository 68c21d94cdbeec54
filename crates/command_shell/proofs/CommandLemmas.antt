-- The commands of lines, one text after another.
use Rattle.std.proofs.Common.{◌≡◌, ℕ, Bool, false, List, [], ◌∷◌, ◌++◌}
use Rattle.std.proofs.Common.{length-append, take, sym, arith, append_assoc, subst}
use Rattle.std.proofs.lemmas.List.{drop-append-le, take-append-le}
use Rattle.store_law.specs.States.{Request}
use Rattle.command_language.proofs.TextLemmas.{append_none}
use Rattle.command_language.specs.Entries.{objects_in}
use Rattle.command_shell.specs.TextCommands.{AsksAlone, AreCommands, load_request}
use Rattle.command_shell.specs.TextCommands.AreCommands.{load, none, one, short}
use Rattle.command_language.specs.Lines.{lines_of}
use Rattle.command_language.specs.Meanings.{meaning_of}

-- after the commands of whole lines the commands go on
pub commands_more : {ended : Bool} {ls ms : List (List ℕ)} {rs ss : List Request} → AreCommands false ls rs
    → AreCommands ended ms ss → AreCommands ended (ls ++ ms) (rs ++ ss)
commands_more none q = q
commands_more {ended = ended} {ms = ms} {ss = ss} (one {line = line} {lines = lines} {ss = ts} rs h p) q =
    subst (AreCommands ended (line ∷ (lines ++ ms))) (sym (append_assoc rs ts ss))
    (one rs h (commands_more p q))
commands_more {ended = ended} {ms = ms} {ss = ss}
    (load {line = line} {lines = lines} {ss = ts} layer count means enough p) q =
    let taken : take count (lines ++ ms) ≡ take count lines = take-append-le count lines ms enough in
    let rest =
    subst (λ (ls : List (List ℕ)). AreCommands ended ls (ts ++ ss))
    (sym (drop-append-le count lines ms enough)) (commands_more p q) in
    subst (λ (ls : List (List ℕ)). AreCommands ended (line ∷ (lines ++ ms))
    (load_request layer (objects_in ls) ∷ (ts ++ ss))) taken
    (load layer count means (omega (arith, enough, length-append lines ms)) rest)
commands_more (short layer count means few at_end) q = absurd (cc)

-- what one line asks, of a text of that line
pub asks_line : {ended : Bool} (text line : List ℕ) (rs : List Request) → lines_of text ≡ line ∷ []
    → AsksAlone (meaning_of line) rs → AreCommands ended (lines_of text) rs
asks_line {ended = ended} text line rs e h =
    subst (λ ls. AreCommands ended ls rs) (sym e)
    (subst (AreCommands ended (line ∷ [])) (append_none rs) (one rs h none))
