-- What only appends to the journal: no call, one call, and calls in turn.
use Rattle.std.proofs.Common.{◌≡◌, ◌∙◌, ℕ, ◌≤◌, ◌<◌, length, take, refl, sym, ap, subst, arith, ⊎_elim}
use Rattle.std.proofs.lemmas.Bool.{cases_lt}
use Rattle.std.proofs.lemmas.List.{nil_from_length, take_all}
use Rattle.block_device.specs.Device.{Blocks, Torn}
use Rattle.device_pair.specs.Pairs.{JournalFollows, PairElapses, PairLeaves}
use Rattle.device_pair.specs.Runs.{pair_call, pair_started, pair_then}
use Rattle.committed_log.specs.Appending.{Appended, AppendsOnly, IsAppended}
use Rattle.committed_log.specs.Committed.{base_of, journal_of, pair_of, IsStill}
use Rattle.committed_log.specs.Opening.{AreSynced}
use Rattle.committed_log.specs.Torn.{take_torn}
use Rattle.committed_log.specs.declared.log.CommittedLog.{CommittedLog}

-- the blocks that were there are there
begun : (journal b : Blocks) → take (length journal) b ≡ journal → length journal ≤ length b
begun journal b begins = ⊎_elim
    (λ (lt : length b < length journal).
    let same : b ≡ journal = sym (take_all (length journal) b (omega (arith, lt))) ∙ begins in
    omega (arith, ap length same))
    (λ (le : length journal ≤ length b). le)
    (cases_lt (length b) (length journal))

-- of an empty journal all begin with its blocks
pub none_begins : (journal b : Blocks) → length journal ≡ 0 → take (length journal) b ≡ journal
none_begins journal b none =
    subst (λ (j : Blocks). take (length j) b ≡ j) (sym (nil_from_length journal none)) refl

pub appended_self : (base journal a b : Blocks) → a ≡ base → b ≡ journal → IsAppended base journal a b
appended_self base journal a b is same = record {
  base_is = is;
  begins = ap (take (length journal)) same ∙ take_all (length journal) journal (omega arith);
}

-- both are synced
pub appended_synced : (base journal base' journal' : Blocks) (ml : Blocks → Blocks → Type 0) → base' ≡ base
    → journal' ≡ journal → AreSynced base journal ml → Appended base journal base' journal' ml
appended_synced base journal base' journal' ml is same synced = record {
  now = appended_self base journal base' journal' is same;
  left = λ a b left. appended_self base journal a b (synced a b left).0 (synced a b left).1;
}

module _ {P A : Type 0} {m : _} where
  pub appends_none : (c : CommittedLog P A m) → AppendsOnly c c
  appends_none c = record {
    after = λ base journal x. x;
    stops = λ base journal x. pair_started m.moment m.left_since (pair_of c) _;
  }

  pub appends_then : (old mid new : CommittedLog P A m) → AppendsOnly old mid → AppendsOnly mid new
      → AppendsOnly old new
  appends_then old mid new x y = record {
    after = λ base journal is. y.after base journal (x.after base journal is);
    stops = λ base journal is.
        pair_then m.moment m.left_since (pair_of old) (pair_of mid) (pair_of new) _ (x.stops base journal is)
        (y.stops base journal (x.after base journal is));
  }

  -- the same pair
  pub appends_pair : (old new : CommittedLog P A m) → pair_of new ≡ pair_of old → AppendsOnly old new
  appends_pair old new pair = record {
    after = λ base journal is.
        subst (λ (x : P). Appended base journal (m.base x) (m.journal x) (m.may_leave x)) (sym pair) is;
    stops = λ base journal is.
        subst (λ (x : P). PairLeaves m.moment m.left_since (pair_of old) x (IsAppended base journal)) (sym pair)
        (pair_started m.moment m.left_since (pair_of old) _);
  }

  appends_call : (old new : CommittedLog P A m)
      → PairElapses (m.moment (pair_of old)) (m.moment (pair_of new)) (m.left_since (pair_of old))
      (m.left_since (pair_of new)) (m.may_leave (pair_of new))
      → ((base journal : Blocks)
      → Appended base journal (base_of old) (journal_of old) (m.may_leave (pair_of old))
      → Appended base journal (base_of new) (journal_of new) (m.may_leave (pair_of new)))
      → AppendsOnly old new
  appends_call old new time after = record {
    after = after;
    stops = λ base journal is.
        pair_call m.moment m.left_since (pair_of old) (pair_of new) _ (m.may_leave (pair_of new)) time
        (after base journal is).left;
  }

  -- nothing was written
  pub appends_still : (old new : CommittedLog P A m) → IsStill old new → AppendsOnly old new
  appends_still old new s =
      appends_call old new s.time (λ base journal is. record {
        now = record {
          base_is = s.base ∙ is.now.base_is;
          begins = ap (take (length journal)) s.journal ∙ is.now.begins;
        };
        left = λ a b left. is.left a b (s.now a b left);
      })

  -- a block of the journal was written behind all that it has
  pub appends_journal : (at : ℕ) (old new : CommittedLog P A m) → base_of new ≡ base_of old
      → length (journal_of old) ≤ at → Torn at (journal_of old) (journal_of new)
      → JournalFollows (Torn at) (m.may_leave (pair_of old)) (m.may_leave (pair_of new))
      → PairElapses (m.moment (pair_of old)) (m.moment (pair_of new)) (m.left_since (pair_of old))
      (m.left_since (pair_of new)) (m.may_leave (pair_of new)) → AppendsOnly old new
  appends_journal at old new same le torn follows time =
      appends_call old new time (λ base journal is.
      let size : length journal ≤ length (journal_of old) = begun journal (journal_of old) is.now.begins in
      record {
        now = record {
          base_is = same ∙ is.now.base_is;
          begins =
              take_torn (length journal) at (journal_of old) (journal_of new) (omega (arith, size, le)) size torn
              ∙ is.now.begins;
        };
        left = λ a b left.
            let from = follows a b left in
            let was : IsAppended base journal a from.0 = is.left a from.0 from.1 in
            record {
              base_is = was.base_is;
              begins = take_torn (length journal) at from.0 b (omega (arith, size, le))
                  (begun journal from.0 was.begins) from.2
                  ∙ was.begins;
            };
      })
