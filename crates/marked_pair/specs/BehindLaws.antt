-- That what stands of a session is a fact, and that it does so after each call.
use Rattle.std.proofs.Common.{◌≡◌, ◌∙◌, ℕ, zero, suc, ◌<◌, ◌≤◌, ◌+◌, List, [], ◌∷◌, length, refl, sym, ap}
use Rattle.std.proofs.Common.{subst, arith, ⊎_elim}
use Rattle.std.proofs.Props.{props}
use Rattle.std.proofs.lemmas.Bool.{cases_lt}
use Rattle.block_device.specs.Device.{Blocks, IsBlock, Torn, block_at, written}
use Rattle.block_device.specs.Written.{length-written_behind, length-written_within, torn_length}
use Rattle.device_pair.specs.Pairs.{BaseFollows, JournalFollows, PairElapses, PairsNoMore}
use Rattle.marked_pair.specs.Behind.{IsBehind, IsLeft, IsPlain, IsSession, IsSessionOf, IsSynced, LeavesBase}
use Rattle.marked_pair.specs.Mark.{reads_as, IsMarked}
use Rattle.marked_pair.specs.MarkLaws.{marked_torn}
use Rattle.marked_pair.specs.declared.mark.Mark.{Mark}
use Rattle.marked_pair.specs.declared.mark.Mark.TheVariants.{Unknown, Written, Synced}

-- facts, which a ghost field may hold
marked_is_fact : (a : Blocks) → IsProp (IsMarked a)
marked_is_fact a = hlevel props

pub behind_is_fact : (mark : Mark) (base : Blocks) (may_leave : Blocks → Blocks → Type 0)
    → IsProp (IsBehind mark base may_leave)
behind_is_fact mark base may_leave = hlevel (props, marked_is_fact)

plain_is_fact : (n : ℕ) (base a b : Blocks) → IsProp (IsPlain n base a b)
plain_is_fact n base a b = hlevel props

left_is_fact : (n : ℕ) (base a b : Blocks) → IsProp (IsLeft n base a b)
left_is_fact n base a b = hlevel (props, marked_is_fact, plain_is_fact n base)

pub last_is_fact : (base : Blocks) (may_leave : Blocks → Blocks → Type 0) → IsProp (LeavesBase base may_leave)
last_is_fact base may_leave = hlevel props

-- where no mark is known
pub behind_none : (base : Blocks) (may_leave : Blocks → Blocks → Type 0) → IsBehind Unknown base may_leave
behind_none base may_leave = record { written = λ no. absurd (no refl); synced = λ e. cc }

-- where there is no mark, none is known
pub unmarked_unknown : (mark : Mark) (base : Blocks) (may_leave : Blocks → Blocks → Type 0)
    → IsBehind mark base may_leave → ¬ IsMarked base → mark ≡ Unknown
unmarked_unknown Unknown base may_leave s none = refl
unmarked_unknown Written base may_leave s none = absurd (none (s.written (λ e. cc)))
unmarked_unknown Synced base may_leave s none = absurd (none (s.written (λ e. cc)))

-- where a call tears another block
pub behind_torn : (mark : Mark) (i : ℕ) (base base' : Blocks) (old new : Blocks → Blocks → Type 0) → 0 < i
    → (IsMarked base → IsMarked base') → BaseFollows (Torn i) old new → IsBehind mark base old
    → IsBehind mark base' new
behind_torn mark i base base' old new some stays follows s = record {
  written = λ known. stays (s.written known);
  synced = λ is a b left. let from = follows a b left in
      marked_torn i from.0 a some from.2 (s.synced is from.0 b from.1);
}

-- blocks that were there stay where another is torn
written_before : (i k : ℕ) (b : List ℕ) (c : Blocks) → k < length c → ¬ (k ≡ i)
    → block_at k (written i b c) ≡ block_at k c
written_before i k b [] lt apart = absurd (omega arith)
written_before zero zero b (x ∷ bs) lt apart = absurd (apart refl)
written_before zero (suc k) b (x ∷ bs) lt apart = refl
written_before (suc i) zero b (x ∷ bs) lt apart = refl
written_before (suc i) (suc k) b (x ∷ bs) lt apart =
    written_before i k b bs (omega arith) (λ e. apart (ap suc e))

torn_before : (i k : ℕ) (old new : Blocks) → Torn i old new → k < length old → ¬ (k ≡ i)
    → block_at k new ≡ block_at k old
torn_before i k old new torn lt apart = ⊎_elim
    (λ (e : new ≡ old). ap (block_at k) e)
    (λ (w : (b : List ℕ) × IsBlock b × (new ≡ written i b old)). ap (block_at k) w.2
    ∙ written_before i k w.0 old lt apart)
    torn

-- a base none of whose blocks but the gate has changed, where the gate or one behind them is torn
plain_torn : (i n : ℕ) (base old a b : Blocks) → ((k : ℕ) → 0 < k → k < n → ¬ (k ≡ i)) → Torn i old a
    → IsPlain n base old b → IsPlain n base a b
plain_torn i n base old a b apart torn plain = record {
  there = omega (arith, plain.there, (torn_length i old a torn).0);
  same = λ k some lt. torn_before i k old a torn (omega (arith, lt, plain.there)) (apart k some lt)
      ∙ plain.same k some lt;
  few = plain.few;
}

-- the first two blocks of a journal of two at most
few_torn : (i : ℕ) (old b : Blocks) → i < 2 → length old ≤ 2 → Torn i old b → length b ≤ 2
few_torn i old b lt few torn = ⊎_elim
    (λ (e : b ≡ old). omega (arith, ap length e, few))
    (λ (w : (x : List ℕ) × IsBlock x × (b ≡ written i x old)). ⊎_elim
    (λ (within : i < length old). omega (arith, ap length w.2, length-written_within i w.0 old within, few))
    (λ (behind : length old ≤ i). omega
    (arith, ap length w.2, length-written_behind i w.0 old behind, behind, lt))
    (cases_lt i (length old)))
    torn

module _ {P : Type 0} (base : P → Blocks) (moment : P → ℕ) (left_since : P → ℕ → Blocks → Blocks → Type 0)
    (may_leave : P → Blocks → Blocks → Type 0) where
  pub session_is_fact : (mark : Mark) (n : ℕ) (first : List (P × ℕ)) (now : P)
      → IsProp (IsSessionOf base moment left_since may_leave mark n first now)
  session_is_fact mark n first now = hlevel (props, one)
    where
      one : (p now : P) → IsProp (IsSession base moment left_since may_leave mark n p now)
      one p now = hlevel (props, marked_is_fact, plain_is_fact n, left_is_fact n)

  -- a pair that is synced is taken over
  pub session_begins : (p : P) (journal : Blocks) → IsSynced (base p) journal (may_leave p)
      → (length (base p) < 2 → length journal ≤ 2)
      → ((a b : Blocks) → left_since p (moment p) a b → may_leave p a b)
      → IsSession base moment left_since may_leave Unknown (length (base p)) p p
  session_begins p journal synced few only = record {
    later = omega arith;
    plain = λ none a b left. as_it_was a b (synced a b left);
    found = λ m. m;
    since = λ a b left. let is = synced a b (only a b left) in
        record { plain = λ none. as_it_was a b is; found = λ m. subst IsMarked (sym is.0) m };
  }
    where
      as_it_was : (a b : Blocks) → (a ≡ base p) × (b ≡ journal) → IsPlain (length (base p)) (base p) a b
      as_it_was a b is = record {
        there = omega (arith, ap length is.0);
        same = λ k some lt. ap (block_at k) is.0;
        few = λ lt. omega (arith, ap length is.1, few lt);
      }

  -- what is left now was left since
  module _ (mark : Mark) (n : ℕ) (p old new : P) (s : IsSession base moment left_since may_leave mark n p old)
      (time : PairElapses (moment old) (moment new) (left_since old) (left_since new) (may_leave new))
      (counts : (t : ℕ) (a b : Blocks) → t ≤ moment old → may_leave old a b → left_since old t a b) where
    left_now : (a b : Blocks) → may_leave old a b → IsLeft n (base p) a b
    left_now a b left = s.since a b (counts (moment p) a b s.later left)

    after : (mark' : Mark)
        → (¬ (mark' ≡ Synced) → (a b : Blocks) → may_leave new a b → IsPlain n (base p) a b)
        → (IsMarked (base p) → IsMarked (base new))
        → ((a b : Blocks) → may_leave new a b → IsLeft n (base p) a b)
        → IsSession base moment left_since may_leave mark' n p new
    after mark' plain found now = record {
      later = omega (arith, s.later, time.later);
      plain = plain;
      found = found;
      since = λ a b left. ⊎_elim (λ (past : left_since old (moment p) a b). s.since a b past)
          (λ (left_new : may_leave new a b). now a b left_new)
          (time.nothing_else (moment p) a b s.later left);
    }

    -- a call that writes nothing, after which no less is known of the mark
    pub session_still : (mark' : Mark) → (¬ (mark' ≡ Synced) → ¬ (mark ≡ Synced)) → base new ≡ base old
        → PairsNoMore (may_leave old) (may_leave new)
        → IsSession base moment left_since may_leave mark' n p new
    session_still mark' less same no_more = after mark'
        (λ none a b left. s.plain (less none) a b (no_more a b left))
        (λ m. subst IsMarked (sym same) (s.found m))
        (λ a b left. left_now a b (no_more a b left))

    -- a block is torn that was not there
    pub session_behind : (i : ℕ) → 0 < i → n ≤ i → (IsMarked (base old) → IsMarked (base new))
        → BaseFollows (Torn i) (may_leave old) (may_leave new)
        → IsSession base moment left_since may_leave mark n p new
    session_behind i some behind stays follows = after mark
        (λ none a b left. let from = follows a b left in
        plain_torn i n (base p) from.0 a b (λ k gt lt e. omega (arith, lt, behind, e)) from.2
        (s.plain none from.0 b from.1))
        (λ m. stays (s.found m))
        (λ a b left.
        let from = follows a b left in
        let was = left_now from.0 b from.1 in
        record {
          plain = λ none. plain_torn i n (base p) from.0 a b (λ k gt lt e. omega (arith, lt, behind, e))
              from.2 (was.plain (λ m. none (marked_torn i from.0 a some from.2 m)));
          found = λ m. marked_torn i from.0 a some from.2 (was.found m);
        })

    -- one that was there, behind a mark that is synced
    pub session_there : mark ≡ Synced → IsMarked (base new)
        → ((a b : Blocks) → may_leave new a b → IsMarked a)
        → IsSession base moment left_since may_leave mark n p new
    session_there is marked stays = after mark
        (λ none a b left. absurd (none is))
        (λ m. marked)
        (λ a b left. record { plain = λ none. absurd (none (stays a b left)); found = λ m. stays a b left })

    -- the gate, where there is no mark
    pub session_gate : ¬ (mark ≡ Synced) → ¬ IsMarked (base old)
        → BaseFollows (Torn 0) (may_leave old) (may_leave new)
        → IsSession base moment left_since may_leave mark n p new
    session_gate unsynced none follows = after mark
        (λ any a b left. torn a b left)
        (λ m. absurd (none (s.found m)))
        (λ a b left. record { plain = λ any. torn a b left; found = λ m. absurd (none (s.found m)) })
      where
        torn : (a b : Blocks) → may_leave new a b → IsPlain n (base p) a b
        torn a b left = let from = follows a b left in
            plain_torn 0 n (base p) from.0 a b (λ k gt lt e. omega (arith, gt, e)) from.2
            (s.plain unsynced from.0 b from.1)

    -- a block of the journal, which is a slot only where there was a header or the mark is synced
    pub session_journal : (i : ℕ) → (n < 2 → 2 ≤ i → mark ≡ Synced)
        → (mark ≡ Synced → (a b : Blocks) → may_leave old a b → IsMarked a) → base new ≡ base old
        → JournalFollows (Torn i) (may_leave old) (may_leave new)
        → IsSession base moment left_since may_leave mark n p new
    session_journal i guard marked same follows = after mark
        (λ none a b left. let from = follows a b left in
        torn a b from.0 from.2 (λ lt ge. absurd (none (guard lt ge))) (s.plain none a from.0 from.1))
        (λ m. subst IsMarked (sym same) (s.found m))
        (λ a b left.
        let from = follows a b left in
        let was = left_now a from.0 from.1 in
        record {
          plain =
              λ none. torn a b from.0 from.2 (λ lt ge. absurd (none (marked (guard lt ge) a from.0 from.1)))
              (was.plain none);
          found = was.found;
        })
      where
        torn : (a b c : Blocks) → Torn i c b → (n < 2 → 2 ≤ i → ⊥) → IsPlain n (base p) a c
            → IsPlain n (base p) a b
        torn a b c step never plain = record {
          there = plain.there;
          same = plain.same;
          few = λ lt. ⊎_elim (λ (first : i < 2). few_torn i c b first (plain.few lt) step)
              (λ (ge : 2 ≤ i). absurd (never lt ge)) (cases_lt i 2);
        }
