-- A journal is one thing to a base, and so what is shown of both is one thing.
use Rattle.std.proofs.Common.{◌≡◌, ◌∙◌, ◌<◌, ◌≤◌, ◌⊎◌, length, refl, sym, subst, arith, ⊎_elim}
use Rattle.block_device.specs.Device.{Blocks}
use Rattle.journaled_file.specs.Judged.{HasEntries, IsJournal, IsJudged, IsNeedless, IsOf}
use Rattle.journaled_file.specs.declared.judging.Found.{Found}
use Rattle.journaled_file.specs.declared.judging.Found.TheVariants.{Fresh, Own, Unended, Ended, Missing, Foreign}
use Rattle.marked_pair.specs.Mark.{IsMarked}
use Rattle.snapshot_file.specs.Shown.{IsShownAs, IsSnapshot}

module _ (a e : Blocks) where
  fresh_own : IsJudged Fresh a e → IsJudged Own a e → ⊥
  fresh_own fresh own = ⊎_elim
      (λ (none : (¬ IsJournal e) × (length e ≤ 2)). none.0 own.0)
      (λ (needless : IsNeedless a e). ⊎_elim
      (λ (few : length e ≤ 4). absurd (omega (arith, few, own.2.room)))
      (λ (empty : (2 ≤ length a) × IsOf a e × ¬ HasEntries e). empty.2 own.2)
      needless.empty)
      fresh.1

  fresh_unended : IsJudged Fresh a e → IsJudged Unended a e → ⊥
  fresh_unended fresh unended = fresh.0 unended.2

  fresh_ended : IsJudged Fresh a e → IsJudged Ended a e → ⊥
  fresh_ended fresh ended = ⊎_elim
      (λ (none : (¬ IsJournal e) × (length e ≤ 2)). none.0 ended.0)
      (λ (needless : IsNeedless a e). needless.not_ended ended.1)
      fresh.1

  fresh_missing : IsJudged Fresh a e → IsJudged Missing a e → ⊥
  fresh_missing fresh missing = ⊎_elim
      (λ (none : (¬ IsJournal e) × (length e ≤ 2)). ⊎_elim
      (λ (mark : IsMarked a). fresh.0 mark)
      (λ (many : 2 < length e). absurd (omega (arith, many, none.1)))
      missing.1)
      (λ (needless : IsNeedless a e). missing.0 needless.journal)
      fresh.1

  fresh_foreign : IsJudged Fresh a e → IsJudged Foreign a e → ⊥
  fresh_foreign fresh foreign = ⊎_elim
      (λ (none : (¬ IsJournal e) × (length e ≤ 2)). none.0 foreign.0)
      (λ (needless : IsNeedless a e). ⊎_elim
      (λ (few : length e ≤ 4). absurd (omega (arith, few, foreign.3)))
      (λ (empty : (2 ≤ length a) × IsOf a e × ¬ HasEntries e). ⊎_elim
      (λ (less : length a < 2). absurd (omega (arith, less, empty.0)))
      (λ (other : ¬ IsOf a e). other empty.1)
      foreign.4)
      needless.empty)
      fresh.1

  own_unended : IsJudged Own a e → IsJudged Unended a e → ⊥
  own_unended own unended = unended.3 own.2

  own_ended : IsJudged Own a e → IsJudged Ended a e → ⊥
  own_ended own ended = own.1 ended.1

  own_missing : IsJudged Own a e → IsJudged Missing a e → ⊥
  own_missing own missing = missing.0 own.0

  own_foreign : IsJudged Own a e → IsJudged Foreign a e → ⊥
  own_foreign own foreign = ⊎_elim
      (λ (mark : IsMarked a). foreign.2 mark)
      (λ (of : (2 ≤ length a) × IsOf a e). ⊎_elim
      (λ (less : length a < 2). absurd (omega (arith, less, of.0)))
      (λ (other : ¬ IsOf a e). other of.1)
      foreign.4)
      own.3

  unended_ended : IsJudged Unended a e → IsJudged Ended a e → ⊥
  unended_ended unended ended = unended.1 ended.1

  unended_missing : IsJudged Unended a e → IsJudged Missing a e → ⊥
  unended_missing unended missing = missing.0 unended.0

  unended_foreign : IsJudged Unended a e → IsJudged Foreign a e → ⊥
  unended_foreign unended foreign = foreign.2 unended.2

  ended_missing : IsJudged Ended a e → IsJudged Missing a e → ⊥
  ended_missing ended missing = missing.0 ended.0

  ended_foreign : IsJudged Ended a e → IsJudged Foreign a e → ⊥
  ended_foreign ended foreign = foreign.1 ended.1

  missing_foreign : IsJudged Missing a e → IsJudged Foreign a e → ⊥
  missing_foreign missing foreign = missing.0 foreign.0

  pub one_found : (f g : Found) → IsJudged f a e → IsJudged g a e → f ≡ g
  one_found Fresh Fresh p q = refl
  one_found Fresh Own p q = absurd (fresh_own p q)
  one_found Fresh Unended p q = absurd (fresh_unended p q)
  one_found Fresh Ended p q = absurd (fresh_ended p q)
  one_found Fresh Missing p q = absurd (fresh_missing p q)
  one_found Fresh Foreign p q = absurd (fresh_foreign p q)
  one_found Own Fresh p q = absurd (fresh_own q p)
  one_found Own Own p q = refl
  one_found Own Unended p q = absurd (own_unended p q)
  one_found Own Ended p q = absurd (own_ended p q)
  one_found Own Missing p q = absurd (own_missing p q)
  one_found Own Foreign p q = absurd (own_foreign p q)
  one_found Unended Fresh p q = absurd (fresh_unended q p)
  one_found Unended Own p q = absurd (own_unended q p)
  one_found Unended Unended p q = refl
  one_found Unended Ended p q = absurd (unended_ended p q)
  one_found Unended Missing p q = absurd (unended_missing p q)
  one_found Unended Foreign p q = absurd (unended_foreign p q)
  one_found Ended Fresh p q = absurd (fresh_ended q p)
  one_found Ended Own p q = absurd (own_ended q p)
  one_found Ended Unended p q = absurd (unended_ended q p)
  one_found Ended Ended p q = refl
  one_found Ended Missing p q = absurd (ended_missing p q)
  one_found Ended Foreign p q = absurd (ended_foreign p q)
  one_found Missing Fresh p q = absurd (fresh_missing q p)
  one_found Missing Own p q = absurd (own_missing q p)
  one_found Missing Unended p q = absurd (unended_missing q p)
  one_found Missing Ended p q = absurd (ended_missing q p)
  one_found Missing Missing p q = refl
  one_found Missing Foreign p q = absurd (missing_foreign p q)
  one_found Foreign Fresh p q = absurd (fresh_foreign q p)
  one_found Foreign Own p q = absurd (own_foreign q p)
  one_found Foreign Unended p q = absurd (unended_foreign q p)
  one_found Foreign Ended p q = absurd (ended_foreign q p)
  one_found Foreign Missing p q = absurd (missing_foreign q p)
  one_found Foreign Foreign p q = refl

same_shown : (f : Found) (a e c d : Blocks) → IsShownAs f a e c → IsShownAs f a e d → c ≡ d
same_shown Fresh a e c d p q = p ∙ sym q
same_shown Own a e c d p q = p ∙ sym q
same_shown Unended a e c d p q = p ∙ sym q
same_shown Ended a e c d p q = p ∙ sym q
same_shown Missing a e c d p q = absurd p
same_shown Foreign a e c d p q = absurd p

-- what is shown where it is known what the journal is
pub shown_as : (f : Found) (a e c : Blocks) → IsJudged f a e → IsSnapshot a e c → IsShownAs f a e c
shown_as f a e c judged snapshot =
    subst (λ (g : Found). IsShownAs g a e c) (one_found a e snapshot.0 f snapshot.1 judged) snapshot.2

pub one_shown : (a e c d : Blocks) → IsSnapshot a e c → IsSnapshot a e d → c ≡ d
one_shown a e c d p q = same_shown q.0 a e c d (shown_as q.0 a e c q.1 p) q.2
