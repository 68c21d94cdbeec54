-- Laws of an end that is finished over files that are synced, of a gate that is shut, and of a mark that is written
-- again.
use Rattle.std.proofs.Common.{◌≡◌, ◌∙◌, ◌<◌, ◌≤◌, List, ℕ, length, ap, sym, subst}
use Rattle.std.proofs.Common.{true, [], ◌∷◌, inl, inr, ⊎_elim, arith}
use Rattle.block_device.specs.Device.{Blocks, IsBlock, Torn, block_at, written}
use Rattle.block_device.specs.Written.{length-written_within, torn_length, torn_other}
use Rattle.committed_log.specs.Log.{says}
use Rattle.journaled_file.specs.Ending.{AreRead, EndTorn, GateTorn, IsEnding}
use Rattle.journaled_file.specs.EndingLaws.{torn_end, torn_header}
use Rattle.journaled_file.specs.Judged.{HasEnded, HasEntries, IsJudged, IsOf}
use Rattle.journaled_file.specs.Paired.{IsAnew, IsShut}
use Rattle.journaled_file.specs.declared.judging.Found.TheVariants.{Own, Unended}
use Rattle.marked_pair.specs.Behind.{IsSynced}
use Rattle.marked_pair.specs.Mark.{reads_as, unmarked, IsMarked}
use Rattle.marked_pair.specs.MarkLaws.{unmarked_marked}
use Rattle.page_file.specs.Layout.{gate_block}
use Rattle.titled_pair.specs.Title.{end_text, reads_title, title_text, with_text}
use Rattle.titled_pair.specs.TitleLaws.{reads_retitled, with_text_twice}

-- a gate that is written once the end is there
pub gate_ending : (base journal : Blocks) (outcomes : Blocks → Blocks → Type 0) (a e : Blocks)
    → IsSynced base journal outcomes → HasEnded base journal → GateTorn outcomes a e → IsEnding base a e
gate_ending base journal outcomes a e synced ended torn =
    let read = synced torn.0 e torn.1 in record {
      gate = subst (λ d. Torn 0 d a) read.0 torn.2;
      end = subst (HasEnded base) (sym read.1) ended;
    }

-- a gate that is written shut, and none of a base without blocks
pub shut_written : (was a : Blocks) → 0 < length was → a ≡ written 0 (gate_block 1) was → IsShut was a
shut_written [] a some is = absurd (omega (arith, some))
shut_written (g ∷ was) a some is = is

pub shut_none : (was a : Blocks) → length was ≡ 0 → a ≡ was → IsShut was a
shut_none [] a none is = is
shut_none (g ∷ was) a none is = absurd (omega (arith, none))

pub shut_is : (was a : Blocks) → IsShut was a → 0 < length was → a ≡ written 0 (gate_block 1) was
shut_is [] a is some = absurd (omega (arith, some))
shut_is (g ∷ was) a is some = is

-- an end that is written over both as they are read
pub end_torn : (base journal : Blocks) (outcomes : Blocks → Blocks → Type 0) (a e : Blocks)
    → IsSynced base journal outcomes → EndTorn outcomes base a e → EndTorn (AreRead base journal) base a e
end_torn base journal outcomes a e synced torn = ⊎_elim
    (λ (was : outcomes a e). inl (synced a e was))
    (λ (w : (a ≡ base) × (d : Blocks) × outcomes a d × Torn 1 d e).
    inr (w.0, w.1, synced a w.1 w.2, w.3))
    torn

-- a mark that is torn over a base that is known by its title
pub torn_own : (base a e : Blocks) → IsJudged Own base e → 2 ≤ length base → IsOf base e → Torn 0 base a
    → IsJudged Own a e
torn_own base a e own two of torn =
    let head = torn_header base a torn in (
      own.0,
      λ (ended : HasEnded a e). own.1 (ended ∙ ap (with_text end_text) head),
      own.2,
      inr (
        omega (arith, two, (torn_length 0 base a torn).0),
        of ∙ sym (ap (with_text title_text) head),
      ),
    )

as_many : (e d : Blocks) → 2 ≤ length e → Torn 1 e d → length d ≡ length e
as_many e d two torn = ⊎_elim
    (λ (same : d ≡ e). ap length same)
    (λ (w : (b : List ℕ) × IsBlock b × (d ≡ written 1 b e)).
    ap length w.2 ∙ length-written_within 1 w.0 e (omega (arith, two)))
    torn

-- an end that is torn beside a base that has the mark
pub torn_unended : (base e d : Blocks) → IsJudged Unended base e → Torn 1 e d → ¬ HasEnded base d
    → IsJudged Unended base d
torn_unended base e d is torn none =
    let two = is.0.room in
    let size = as_many e d two torn in (
      record {
        room = omega (arith, two, size);
        title = ap reads_title (torn_end e d two torn).0 ∙ is.0.title;
      },
      none,
      is.2,
      λ (has : HasEntries d). is.3 (record {
        room = omega (arith, has.room, size);
        complete =
            sym (ap says (torn_other 1 2 e d torn (omega (arith, two)) (λ same. absurd (omega (arith, same)))))
            ∙ has.complete;
      }),
    )

-- a mark in the place of another is shown as that one
pub unmarked_again : (b : List ℕ) (a : Blocks) → IsMarked a → reads_as 2 b ≡ true
    → unmarked (written 0 b a) ≡ unmarked a
unmarked_again b [] m is = absurd (omega (arith, m.there))
unmarked_again b (x ∷ a) m is =
    ap (λ (gate : List ℕ). gate ∷ a) (unmarked_marked b is ∙ sym (unmarked_marked x m.mark))

-- a journal that is written anew, with the text of today, is what it was
pub anew_own : (a e new : Blocks) (title end : List ℕ) → title ≡ with_text title_text (block_at 0 e)
    → end ≡ block_at 1 e → IsAnew title end new → IsJudged Own a e → IsJudged Own a new
anew_own a e new title end title_was end_was is own =
    let head : block_at 0 new ≡ with_text title_text (block_at 0 e) = is.title_is ∙ title_was in (
      record {
        room = omega (arith, is.room);
        title = ap reads_title head ∙ reads_retitled (block_at 0 e);
      },
      λ (ended : HasEnded a new). own.1 (sym (is.end_is ∙ end_was) ∙ ended),
      record { room = is.room; complete = is.complete },
      ⊎_elim
          (λ (m : IsMarked a). inl m)
          (λ (of : (2 ≤ length a) × IsOf a e). inr (
            of.0,
            ap (with_text title_text) head ∙ with_text_twice title_text title_text (block_at 0 e) ∙ of.1,
          ))
          own.3,
    )
