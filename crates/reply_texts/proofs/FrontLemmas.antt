-- How lines begin, as they are told.
use Rattle.std.proofs.Common.{◌≡◌, ℕ, ltb, true, false, ◌<◌, ◌≤◌, List, [], length, take, None, sym, ◌∙◌, refl}
use Rattle.std.proofs.Common.{arith}
use Rattle.std.proofs.lemmas.Bool.Decides.{nat_tests}
use Rattle.std.proofs.lemmas.List.{take_all}
use Rattle.command_language.specs.Meanings.{longest_line}
use Rattle.reply_texts.specs.Refused.{IsFrontOf, told_bytes}
use Rattle.reply_texts.specs.declared.refused.LineFront.{LineFront}

-- how a line begins that has more than is told, and one that has not
pub front_cut : (line : List ℕ) (front : LineFront) → length line ≤ longest_line → 60 < length line
    → front.bytes.items ≡ take 60 line → front.is_cut ≡ true → front.bad_entry ≡ None → IsFrontOf front line []
front_cut line front short long bytes cut none =
    let no_more : ltb longest_line (length line) ≡ false = grind (arith, nat_tests) in
    let more : ltb told_bytes (length line) ≡ true = grind (arith, nat_tests) in
    (bytes ∙ (rw no_more refl), cut ∙ sym more, none)

pub front_whole : (line : List ℕ) (front : LineFront) → length line ≤ 60
    → front.bytes.items ≡ line → front.is_cut ≡ false → front.bad_entry ≡ None → IsFrontOf front line []
front_whole line front short bytes cut no_entry =
    let no_more : ltb longest_line (length line) ≡ false = grind (arith, nat_tests) in
    let none : ltb told_bytes (length line) ≡ false = grind (arith, nat_tests) in
    (bytes ∙ (rw no_more (sym (take_all told_bytes line short))), cut ∙ sym none, no_entry)
