-- Laws of a clean end that is cut short.
use Rattle.std.proofs.Common.{◌≡◌, ◌∙◌, ◌≤◌, List, [], ◌∷◌, ℕ, true, false, length, refl, ap, sym}
use Rattle.std.proofs.Common.{arith, lit<, ⊎_elim}
use Rattle.std.proofs.lemmas.Bool.{cases_Bool}
use Rattle.block_device.specs.Device.{Blocks, IsBlock, Torn, block_at, written}
use Rattle.journaled_file.specs.Ending.{IsEnding}
use Rattle.journaled_file.specs.Judged.{IsJournal, IsJudged}
use Rattle.journaled_file.specs.declared.judging.Found.TheVariants.{Ended}
use Rattle.marked_pair.specs.Mark.{reads_as, unmarked, IsMarked}
use Rattle.marked_pair.specs.MarkLaws.{gate_bytes, gate_reads, unmarked_marked, unmarked_plain}
use Rattle.page_file.specs.Layout.{gate_block}
use Rattle.titled_pair.specs.Title.{end_text, header_in, untitled, with_text}

header_written : (b : List ℕ) (base : Blocks) → header_in (written 0 b base) ≡ header_in base
header_written b [] = refl
header_written b (x ∷ base) = refl

written_again : (g b : List ℕ) (base : Blocks) → written 0 g (written 0 b base) ≡ written 0 g base
written_again g b [] = refl
written_again g b (x ∷ base) = refl

end_written : (b : List ℕ) (d : Blocks) → 2 ≤ length d
    → (block_at 0 (written 1 b d) ≡ block_at 0 d) × (untitled (written 1 b d) ≡ untitled d)
end_written b [] two = absurd (omega (arith, two))
end_written b (x ∷ []) two = absurd (omega (arith, two))
end_written b (x ∷ y ∷ d) two = (refl, refl)

-- a base whose gate is torn has the header that it had
pub torn_header : (base a : Blocks) → Torn 0 base a → header_in a ≡ header_in base
torn_header base a torn = ⊎_elim
    (λ (e : a ≡ base). ap header_in e)
    (λ (w : (b : List ℕ) × IsBlock b × (a ≡ written 0 b base)). ap header_in w.2 ∙ header_written w.0 base)
    torn

-- what is left once the end is there is judged to be ended
pub is_ended : (base a e : Blocks) → IsJournal e → IsEnding base a e → IsJudged Ended a e
is_ended base a e is ending =
    (is, ending.end ∙ sym (ap (with_text end_text) (torn_header base a ending.gate)))

-- and the gate that is then written takes the torn one's place
pub gate_again : (g : List ℕ) (base a : Blocks) → Torn 0 base a → written 0 g a ≡ written 0 g base
gate_again g base a torn = ⊎_elim
    (λ (e : a ≡ base). ap (written 0 g) e)
    (λ (w : (b : List ℕ) × IsBlock b × (a ≡ written 0 b base)). ap (written 0 g) w.2
    ∙ written_again g w.0 base)
    torn

-- an end that is torn leaves the title, and the journal behind it
pub torn_end : (d e : Blocks) → 2 ≤ length d → Torn 1 d e
    → (block_at 0 e ≡ block_at 0 d) × (untitled e ≡ untitled d)
torn_end d e two torn = ⊎_elim
    (λ (same : e ≡ d). (ap (block_at 0) same, ap untitled same))
    (λ (w : (b : List ℕ) × IsBlock b × (e ≡ written 1 b d)).
    let is = end_written w.0 d two in (ap (block_at 0) w.2 ∙ is.0, ap untitled w.2 ∙ is.1))
    torn

-- a base whose mark is taken away is shown as it was
shut_plain : ¬ (reads_as 2 (gate_block 1) ≡ true)
shut_plain e =
    absurd
    (omega (
      arith,
      (gate_bytes 2 (gate_block 1) e).1,
      (gate_bytes 1 (gate_block 1) (gate_reads 1 (lit< tt))).1,
    ))

pub shut_shown : (a b : Blocks) → (IsMarked a → b ≡ written 0 (gate_block 1) a) → (¬ IsMarked a → b ≡ a)
    → unmarked b ≡ unmarked a
shut_shown [] b shut plain = ap unmarked (plain (λ m. absurd (omega (arith, m.there))))
shut_shown (x ∷ a) b shut plain = ⊎_elim
    (λ (is : reads_as 2 x ≡ true).
    ap unmarked (shut (record { there = omega arith; mark = is }))
    ∙ ap (λ (g : List ℕ). g ∷ a) (unmarked_plain (gate_block 1) shut_plain ∙ sym (unmarked_marked x is)))
    (λ (no : reads_as 2 x ≡ false).
    ap unmarked (plain (λ m. let both : true ≡ false = sym m.mark ∙ no in cc)))
    (cases_Bool (reads_as 2 x))
