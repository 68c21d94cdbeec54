-- What stands through each call, while the region is filled and while it is decided.
use Rattle.std.proofs.Common.{◌≡◌, ◌∙◌, ◌⊎◌, ℕ, ◌+◌, ◌^◌, ◌<◌, ◌≤◌, Bool, true, false, List, [], ◌∷◌, ◌++◌, length}
use Rattle.std.proofs.Common.{take, Result, Ok, Err, OnOk, OnErr, refl, sym, ap, subst, arith, inl, inr, ⊎_elim}
use Rattle.std.specs.List.{All}
use Rattle.std.proofs.lemmas.List.{length_push, length-take-le, take_all}
use Rattle.std.proofs.lemmas.List.Elements.{All-push}
use Rattle.block_bytes.specs.Numbers.{number_at}
use Rattle.block_device.specs.Device.{Begins, Blocks, IsBlock, Torn, block_at, written}
use Rattle.block_device.specs.Written.{block_at-written_other, length-written_within, torn_other}
use Rattle.block_device.specs.declared.device.DeviceError.{DeviceError}
use Rattle.device_pair.specs.Pairs.{BaseFollows, JournalFollows}
use Rattle.committed_log.specs.Found.{IsSlot}
use Rattle.committed_log.specs.Log.{count_in, index_blocks, says}
use Rattle.committed_log.specs.Regions.{slots_same}
use Rattle.committed_log.specs.Torn.{take_torn, torn_before, torn_longer, torn_size}
use Rattle.logged_pair.specs.Commits.{CommitsNoMore}
use Rattle.logged_pair.specs.Law.{begins_as, begins_take}
use Rattle.logged_pair.specs.Shown.{shown_again, shown_elsewhere, shown_flag}
use Rattle.logged_pair.specs.Stages.{CommitsIn, IsDeciding, IsFilling, IsRecorded, IsStanding, ReadsIn, SameBehind}
use Rattle.logged_pair.specs.Stages.{StopIn, shown_through}

abbrev pub Outcomes : Type 1
Outcomes = Blocks → Blocks → Type 0

abbrev pub Answer : Type 0
Answer = Result (Unit {0}) DeviceError

-- ---- of an answer

-- a write that answered, Ok or not, has torn its block at most
pub torn_of : (r : Answer) (i : ℕ) (bytes : List ℕ) (old new : Blocks) → IsBlock bytes
    → OnOk r (new ≡ written i bytes old) → OnErr r (Torn i old new) → Torn i old new
torn_of (Ok u) i bytes old new is w t = inr (bytes, is, w)
torn_of (Err e) i bytes old new is w t = t

pub on_ok : (r : Answer) (P Q : Type 0) → (P → Q) → OnOk r P → OnOk r Q
on_ok (Ok u) P Q f p = f p
on_ok (Err e) P Q f p = p

pub on_err : (r : Answer) (P Q : Type 0) → (P → Q) → OnErr r P → OnErr r Q
on_err (Ok u) P Q f p = p
on_err (Err e) P Q f p = f p

pub on_any : (r : Answer) (P : Type 0) → P → OnErr r P
on_any (Ok u) P p = tt
on_any (Err e) P p = p

pub on_either : (r : Answer) (P : Type 0) → P → OnOk r P
on_either (Ok u) P p = p
on_either (Err e) P p = tt

-- ---- while the region is filled

pub settled_never : (clearing : Bool) (n : ℕ) → clearing ≡ false → clearing ≡ true → n ≡ 0
settled_never clearing n s c = let no : true ≡ false = sym c ∙ s in absurd (cc)

pub filled : (deciding clearing : Bool) (kept : ℕ) (slots : List ℕ) (base journal : Blocks) (ml : Outcomes)
    → deciding ≡ false → (clearing ≡ true → length slots ≡ 0) → kept ≤ length base
    → All (λ h. h < kept) slots → 2 + length slots ≤ length journal
    → ((a b : Blocks) → ml a b → IsFilling kept base a b)
    → IsStanding deciding clearing kept slots base journal ml
filled deciding clearing kept slots base journal ml e clear le below room stops =
    subst (λ (t : Bool). IsStanding t clearing kept slots base journal ml) (sym e) (record {
      kept_there = le;
      homes_below = below;
      room = room;
      reads = tt;
      stops = stops;
      clear = λ c. (refl, clear c);
    })

pub filling : (deciding clearing : Bool) (kept : ℕ) (slots : List ℕ) (base journal : Blocks) (ml : Outcomes)
    → deciding ≡ false → IsStanding deciding clearing kept slots base journal ml
    → (a b : Blocks) → ml a b → IsFilling kept base a b
filling deciding clearing kept slots base journal ml e s a b left =
    subst (λ (t : Bool). StopIn t kept base journal a b) e (s.stops a b left)

pub deciding_stop : (deciding clearing : Bool) (kept : ℕ) (slots : List ℕ) (base journal : Blocks) (ml : Outcomes)
    → deciding ≡ true → IsStanding deciding clearing kept slots base journal ml
    → (a b : Blocks) → ml a b → IsDeciding base journal a b
deciding_stop deciding clearing kept slots base journal ml e s a b left =
    subst (λ (t : Bool). StopIn t kept base journal a b) e (s.stops a b left)

pub deciding_reads : (deciding clearing : Bool) (kept : ℕ) (slots : List ℕ) (base journal : Blocks)
    (ml : Outcomes) → deciding ≡ true → IsStanding deciding clearing kept slots base journal ml
    → IsRecorded slots journal
deciding_reads deciding clearing kept slots base journal ml e s =
    subst (λ (t : Bool). ReadsIn t slots journal) e s.reads

-- the base is synced, and no region behind the others is committed
pub synced_stop : (kept : ℕ) (base a b : Blocks) → kept ≤ length base → a ≡ base → 0 < length b
    → says (block_at 0 b) ≡ false → IsFilling kept base a b
synced_stop kept base a b le is there unsaid = record {
  begins = begins_as (take kept base) base a is (begins_take kept base le);
  there = there;
  unsaid = unsaid;
}

module _ (deciding clearing clearing' : Bool) (kept i : ℕ) (slots : List ℕ) (base base' journal journal' : Blocks)
    (ml ml' : Outcomes) (fills : deciding ≡ false) (settled : clearing' ≡ false)
    (stands : IsStanding deciding clearing kept slots base journal ml) where
  -- a block of the journal, not the flag
  pub journal_put : 0 < i → base' ≡ base → Torn i journal journal' → JournalFollows (Torn i) ml ml'
      → IsStanding deciding clearing' kept slots base' journal' ml'
  journal_put gt same torn follows =
      subst (λ (x : Blocks). IsStanding deciding clearing' kept slots x journal' ml') (sym same)
      (filled deciding clearing' kept slots base journal' ml' fills
      (settled_never clearing' (length slots) settled) stands.kept_there stands.homes_below
      (omega (arith, stands.room, torn_longer i journal journal' torn)) (λ a b left.
      let from = follows a b left in
      let was : IsFilling kept base a from.0 =
      filling deciding clearing kept slots base journal ml fills stands a from.0 from.1 in
      record {
        begins = was.begins;
        there = omega (arith, was.there, torn_longer i from.0 b from.2);
        unsaid = ap says (torn_before 0 i from.0 b gt was.there from.2) ∙ was.unsaid;
      }))

  -- a block of the base behind those of the last commit
  pub behind_put : kept ≤ i → journal' ≡ journal → Torn i base base' → BaseFollows (Torn i) ml ml'
      → IsStanding deciding clearing' kept slots base' journal' ml'
  behind_put le same torn follows =
      let first : take kept base' ≡ take kept base = take_torn kept i base base' le stands.kept_there torn in
      let size : length (take kept base) ≡ kept = length-take-le kept base stands.kept_there in
      filled deciding clearing' kept slots base' journal' ml' fills
      (settled_never clearing' (length slots) settled)
      (omega (arith, stands.kept_there, torn_longer i base base' torn)) stands.homes_below
      (omega (arith, stands.room, ap length same)) (λ a b left.
      let from = follows a b left in
      let was : IsFilling kept base from.0 b =
      filling deciding clearing kept slots base journal ml fills stands from.0 b from.1 in
      record {
        begins = subst (λ (x : Blocks). Begins x a) (sym first) (record {
          no_shorter = omega (arith, was.begins.no_shorter, torn_longer i from.0 a from.2);
          same = λ k lt.
              torn_before k i from.0 a (omega (arith, lt, size, le)) (omega (arith, lt, was.begins.no_shorter))
              from.2
              ∙ was.begins.same k lt;
        });
        there = was.there;
        unsaid = was.unsaid;
      })

-- one slot more
pub slot_put : (deciding clearing : Bool) (kept i : ℕ) (slots : List ℕ) (base journal : Blocks) (ml : Outcomes)
    → deciding ≡ false → clearing ≡ false → i < kept → 2 + length slots + 1 ≤ length journal
    → IsStanding deciding clearing kept slots base journal ml
    → IsStanding deciding clearing kept (slots ++ i ∷ []) base journal ml
slot_put deciding clearing kept i slots base journal ml e settled lt room s =
    filled deciding clearing kept (slots ++ i ∷ []) base journal ml e
    (settled_never clearing (length (slots ++ i ∷ [])) settled) s.kept_there
    (All-push (λ h. h < kept) slots i s.homes_below lt) (omega (arith, room, length_push slots i))
    (filling deciding clearing kept slots base journal ml e s)

-- ---- what is read through the slots

module _ (slots slots' : List ℕ) (journal journal' base base' : Blocks) (homes_are : slots' ≡ slots)
    (base_is : base' ≡ base) (few : length base ≤ 2 ^ 31) (room : 2 + length slots ≤ length journal) where
  over : (j : Blocks) → journal' ≡ j → shown_through slots' journal' base' ≡ shown_through slots j base
  over j e = ap (λ (hs : List ℕ). shown_through hs journal' base') homes_are
      ∙ ap (shown_through slots journal') base_is ∙ ap (λ (b : Blocks). shown_through slots b base) e

  -- where one is written again
  pub again_is : (i m : ℕ) (bytes : List ℕ) → IsSlot slots i m → i < length base
      → journal' ≡ written (2 + m) bytes journal
      → shown_through slots' journal' base' ≡ written i bytes (shown_through slots journal base)
  again_is i m bytes slot lt w = over (written (2 + m) bytes journal) w
      ∙ shown_again i m slots bytes journal base slot room lt

  pub again_torn : (i m : ℕ) → IsSlot slots i m → i < length base
      → (Torn (2 + m) journal journal' × (2 + m ≤ length journal)) ⊎ (journal' ≡ journal)
      → Torn i (shown_through slots journal base) (shown_through slots' journal' base')
  again_torn i m slot lt torn = ⊎_elim
      (λ (t : Torn (2 + m) journal journal' × (2 + m ≤ length journal)). ⊎_elim
      (λ (e : journal' ≡ journal). inl (over journal e))
      (λ (w : (b : List ℕ) × IsBlock b × (journal' ≡ written (2 + m) b journal)). inr
      (w.0, w.1, again_is i m w.0 slot lt w.2))
      t.0)
      (λ (e : journal' ≡ journal). inl (over journal e))
      torn

  -- where a block is written that is no slot
  pub elsewhere_is : (at : ℕ) → (at < 2) ⊎ (2 + length slots ≤ at)
      → (Torn at journal journal' × (at ≤ length journal)) ⊎ (journal' ≡ journal)
      → shown_through slots' journal' base' ≡ shown_through slots journal base
  elsewhere_is at apart torn = ⊎_elim
      (λ (t : Torn at journal journal' × (at ≤ length journal)). ⊎_elim
      (λ (e : journal' ≡ journal). over journal e)
      (λ (w : (b : List ℕ) × IsBlock b × (journal' ≡ written at b journal)). over (written at w.0 journal) w.2
      ∙ shown_elsewhere at slots w.0 journal base (omega (arith, few)) apart t.1)
      t.0)
      (λ (e : journal' ≡ journal). over journal e)
      torn

-- ---- the commits

-- while the region is filled, the commit is in the first blocks of the base
pub commits_filling : (deciding deciding' : Bool) (kept : ℕ) (slots slots' : List ℕ)
    (base base' journal journal' : Blocks) → deciding ≡ false → deciding' ≡ false
    → take kept base' ≡ take kept base
    → CommitsNoMore (CommitsIn deciding kept slots base journal) (CommitsIn deciding' kept slots' base' journal')
commits_filling deciding deciding' kept slots slots' base base' journal journal' e e' same =
    subst (λ (t : Bool). CommitsNoMore (CommitsIn t kept slots base journal)
    (CommitsIn deciding' kept slots' base' journal')) (sym e)
    (subst (λ (t : Bool). CommitsNoMore (CommitsIn false kept slots base journal)
    (CommitsIn t kept slots' base' journal')) (sym e') (λ c is. is ∙ same))

-- what is read, and was committed, is the same: so are the commits
pub commits_same : (deciding : Bool) (kept : ℕ) (slots : List ℕ) (base base' journal journal' : Blocks)
    → take kept base' ≡ take kept base → shown_through slots journal' base' ≡ shown_through slots journal base
    → CommitsNoMore (CommitsIn deciding kept slots base journal) (CommitsIn deciding kept slots base' journal')
commits_same false kept slots base base' journal journal' first shown c is = is ∙ first
commits_same true kept slots base base' journal journal' first shown c is =
    ⊎_elim (λ a. inl (a ∙ first)) (λ b. inr (b ∙ shown)) is

pub torn_first : (kept i : ℕ) (base base' : Blocks) → kept ≤ i → kept ≤ length base → Torn i base base'
    → take kept base' ≡ take kept base
torn_first kept i base base' le there torn = take_torn kept i base base' le there torn

-- all of the base was committed, where it has no other blocks
pub filling_all : (deciding : Bool) (n : ℕ) (slots : List ℕ) (base journal c : Blocks) → deciding ≡ false
    → n ≡ length base → CommitsIn deciding n slots base journal c → c ≡ base
filling_all deciding n slots base journal c e n_is is =
    let t : c ≡ take n base = subst (λ (x : Bool). CommitsIn x n slots base journal c) e is in
    t ∙ take_all n base (omega (arith, n_is))

-- ---- the flag, written

pub behind_torn : (old new : Blocks) → 0 < length old → Torn 0 old new → SameBehind new old
behind_torn old new some torn = record {
  as_many = torn_size 0 old new some torn;
  same = λ k gt. torn_other 0 k old new torn (omega arith) (λ e. omega (arith, e, gt));
}

behind_then : (a b c : Blocks) → SameBehind a b → SameBehind b c → SameBehind a c
behind_then a b c x y = record { as_many = x.as_many ∙ y.as_many; same = λ k gt. x.same k gt ∙ y.same k gt }

behind_back : (a b : Blocks) → SameBehind a b → SameBehind b a
behind_back a b x = record { as_many = sym x.as_many; same = λ k gt. sym (x.same k gt) }

recorded_same : (slots : List ℕ) (b journal : Blocks) → SameBehind b journal → IsRecorded slots journal
    → IsRecorded slots b
unfolding count_in
recorded_same slots b journal same r =
    let n : ℕ = length slots in
    record {
      count = ap (number_at 4 8) (same.same 1 (omega arith)) ∙ r.count;
      index = slots_same n 0 n journal b (omega arith) (λ j gt lt. same.same j gt) ∙ r.index;
      room = omega (arith, r.room, same.as_many);
      last = ap says (same.same (2 + n + index_blocks n) (omega arith)) ∙ r.last;
    }

-- The flag is asked to say that the region is committed.
pub flag_put : (deciding clearing clearing' : Bool) (kept : ℕ) (slots : List ℕ)
    (base base' journal journal' : Blocks) (ml ml' : Outcomes) → deciding ≡ true → clearing' ≡ false
    → base' ≡ base → SameBehind journal' journal → JournalFollows (Torn 0) ml ml'
    → IsStanding deciding clearing kept slots base journal ml
    → IsStanding deciding clearing' kept slots base' journal' ml'
flag_put deciding clearing clearing' kept slots base base' journal journal' ml ml' e settled same behind follows
    stands =
    let s : IsStanding true clearing kept slots base journal ml =
    subst (λ (t : Bool). IsStanding t clearing kept slots base journal ml) e stands in
    subst (λ (x : Blocks). IsStanding deciding clearing' kept slots x journal' ml') (sym same)
    (subst (λ (t : Bool). IsStanding t clearing' kept slots base journal' ml') (sym e) (record {
      kept_there = s.kept_there;
      homes_below = s.homes_below;
      room = omega (arith, s.room, behind.as_many);
      reads = recorded_same slots journal' journal behind s.reads;
      stops = λ a b left.
          let from = follows a b left in
          let was : IsDeciding base journal a from.0 = s.stops a from.0 from.1 in
          record {
            base_is = was.base_is;
            journal_is =
                behind_then b journal journal'
                (behind_then b from.0 journal
                (behind_torn from.0 b (omega (arith, s.room, was.journal_is.as_many)) from.2) was.journal_is)
                (behind_back journal' journal behind);
          };
      clear = λ c. absurd (never c);
    }))
  where
    never : clearing' ≡ true → ⊥
    never c = let no : true ≡ false = sym c ∙ settled in cc

-- the blocks behind one of number 0 that was written, cut short or not
pub behind_answer : (r : Answer) (bytes : List ℕ) (old new : Blocks) → 0 < length old
    → OnOk r (new ≡ written 0 bytes old) → OnErr r (Torn 0 old new) → SameBehind new old
behind_answer (Ok u) bytes old new some w t = record {
  as_many = ap length w ∙ length-written_within 0 bytes old some;
  same = λ k gt. ap (block_at k) w
      ∙ block_at-written_other 0 k bytes old (omega arith) (λ e. omega (arith, e, gt));
}
behind_answer (Err e) bytes old new some w t = behind_torn old new some t

pub flag_shown : (slots : List ℕ) (base base' journal journal' : Blocks) → length base ≤ 2 ^ 31 → base' ≡ base
    → SameBehind journal' journal → shown_through slots journal' base' ≡ shown_through slots journal base
flag_shown slots base base' journal journal' few same behind = ap (shown_through slots journal') same
    ∙ shown_flag slots journal' journal base (omega (arith, few)) behind
