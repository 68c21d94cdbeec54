-- Laws of what is found beside a base.
use Rattle.std.proofs.Common.{◌≡◌, ◌∙◌, ◌<◌, ◌≤◌, ℕ, List, [], length, zero, suc, sym, ap}
use Rattle.std.proofs.Common.{arith, get_or, ⊎_elim}
use Rattle.std.proofs.lemmas.List.{get_or_default}
use Rattle.block_bytes.specs.Numbers.{put_number, zeros}
use Rattle.block_device.specs.Device.{Blocks, block_at}
use Rattle.journaled_file.specs.Judged.{IsJournal, IsJudged, IsOf}
use Rattle.journaled_file.specs.declared.judging.Found.TheVariants.{Ended, Missing, Foreign}
use Rattle.marked_pair.specs.Behind.{IsLeft, IsPlain}
use Rattle.marked_pair.specs.Mark.{IsMarked}
use Rattle.titled_pair.specs.Title.{end_text, header_in, reads_title, title_of, title_text, untitled}
use Rattle.titled_pair.specs.Title.{with_text}
use Rattle.titled_pair.specs.Title.{HasTitle}
use Rattle.titled_pair.specs.TitleLaws.{length-untitled}

-- a base all of whose blocks but the gate are another's, of two blocks at least, has its title
same_title : (n : ℕ) (base a b : Blocks) → n ≡ length base → 2 ≤ n → IsPlain n base a b
    → title_of a ≡ title_of base
same_title n base a b size two plain =
    let same : block_at 1 a ≡ block_at 1 base = plain.same 1 (omega arith) (omega (arith, two)) in
    ap (with_text title_text)
    (get_or_default a 1 zeros [] (omega (arith, plain.there, two)) ∙ same
    ∙ get_or_default base 1 [] zeros (omega (arith, size, two)))

-- a journal with the title of a journal is one
pub is_journal : (journal e : Blocks) → IsJournal journal → HasTitle journal e → IsJournal e
is_journal journal e is has = record { room = has.room; title = ap reads_title has.title ∙ is.title }

-- What a session leaves is judged to be neither missing nor foreign.
pub none_missing : (journal a e : Blocks) → IsJournal journal → HasTitle journal e → ¬ IsJudged Missing a e
none_missing journal a e is has judged = judged.0 (is_journal journal e is has)

pub none_foreign : (n : ℕ) (base journal a e : Blocks) → n ≡ length base
    → (¬ IsMarked base → IsOf base journal) → HasTitle journal e → IsLeft n base a (untitled e)
    → ¬ IsJudged Foreign a e
none_foreign n base journal a e size of has left judged =
    let plain = left.plain judged.2 in
    let two : 2 ≤ n = many n plain.few in
    ⊎_elim (λ (few : length a < 2). absurd (omega (arith, two, few, plain.there)))
    (λ (other : ¬ IsOf a e). other
    (ap (with_text title_text) has.title ∙ of (λ m. judged.2 (left.found m))
    ∙ sym (same_title n base a (untitled e) size two plain)))
    judged.4
  where
    many : (k : ℕ) → (k < 2 → length (untitled e) ≤ 2) → 2 ≤ k
    many zero few = absurd (omega (arith, few (omega arith), length-untitled e, judged.3))
    many (suc zero) few = absurd (omega (arith, few (omega arith), length-untitled e, judged.3))
    many (suc (suc k)) few = omega arith

-- a text is not a block of zeros
text_is_some : (header : List ℕ) → ¬ (put_number 8 0 end_text header ≡ zeros)
unfolding put_number zeros
text_is_some header same =
    let byte : 82 ≡ 0 = ap (λ b. get_or b 0 0) same in
    absurd (omega (arith, byte))

-- while a journal's end is of zeros, its session is not judged to have ended
pub none_ended : (journal a e : Blocks) → HasTitle journal e → block_at 1 journal ≡ zeros
    → ¬ IsJudged Ended a e
unfolding with_text
none_ended journal a e has blank judged =
    text_is_some (header_in a) (sym judged.1 ∙ has.end ∙ blank)
