-- What stands where a commit comes further, and which commits there are then.
use Rattle.std.proofs.Common.{◌≡◌, ◌∙◌, ℕ, ◌+◌, ◌<◌, ◌≤◌, Bool, true, false, List, [], length, take, drop, refl, sym, ap}
use Rattle.std.proofs.Common.{subst, arith, inl, inr, ⊎_elim}
use Rattle.std.specs.List.{All}
use Rattle.std.proofs.lemmas.List.{get_or-drop, length-drop, take_all}
use Rattle.std.proofs.lemmas.List.Elements.{All-weaker}
use Rattle.block_device.specs.Device.{Blocks, block_at}
use Rattle.device_pair.specs.Pairs.{PairsNoMore}
use Rattle.committed_log.specs.Log.{index_blocks, says, size_of}
use Rattle.committed_log.specs.Region.{IsRegion}
use Rattle.logged_pair.specs.Law.{recorded_region, recorded_size}
use Rattle.logged_pair.specs.Commits.{CommitsNoMore, OrNew}
use Rattle.logged_pair.specs.Stages.{CommitsIn, IsFilling, IsRecorded, IsStanding, shown_through}
use Rattle.logged_pair.proofs.Stood.{Outcomes, filled, filling, settled_never, synced_stop}

none_below : (n : ℕ) (hs : List ℕ) → hs ≡ [] → All (λ h. h < n) hs
none_below n hs none k d lt = absurd (omega (arith, lt, ap length none))

module _ (deciding clearing clearing' : Bool) (kept : ℕ) (slots : List ℕ) (base base' journal journal' : Blocks)
    (ml ml' : Outcomes) (fills : deciding ≡ false) (settled : clearing' ≡ false) (base_is : base' ≡ base)
    (journal_is : journal' ≡ journal) (stands : IsStanding deciding clearing kept slots base journal ml) where
  -- a region that is recorded, and the base, were synced in turn
  pub prepared : ((a b : Blocks) → ml' a b → a ≡ base) → ((a b : Blocks) → ml' a b → b ≡ journal)
      → IsRecorded slots journal → IsStanding true clearing' kept slots base' journal' ml'
  prepared a_is b_is recorded =
      subst (λ (x : Blocks). IsStanding true clearing' kept slots x journal' ml') (sym base_is)
      (subst (λ (x : Blocks). IsStanding true clearing' kept slots base x ml') (sym journal_is) (record {
        kept_there = stands.kept_there;
        homes_below = stands.homes_below;
        room = stands.room;
        reads = recorded;
        stops = λ a b left. record {
          base_is = a_is a b left;
          journal_is =
              record { as_many = ap length (b_is a b left); same = λ k gt. ap (block_at k) (b_is a b left) };
        };
        clear = λ c. absurd (never c);
      }))
    where
      never : clearing' ≡ true → ⊥
      never c = let no : true ≡ false = sym c ∙ settled in cc

  -- appended blocks were synced
  pub appended : (n : ℕ) → n ≡ length base' → PairsNoMore ml ml' → ((a b : Blocks) → ml' a b → a ≡ base)
      → IsStanding deciding clearing' n slots base' journal' ml'
  appended n n_is more a_is =
      let size : length base' ≡ length base = ap length base_is in
      filled deciding clearing' n slots base' journal' ml' fills (settled_never clearing' (length slots) settled)
      (omega (arith, n_is))
      (All-weaker (λ h. h < kept) (λ h. h < n) (λ h lt. omega (arith, lt, stands.kept_there, n_is, size)) slots
      stands.homes_below)
      (omega (arith, stands.room, ap length journal_is)) (λ a b left.
      let was : IsFilling kept base a b =
      filling deciding clearing kept slots base journal ml fills stands a b (more a b left) in
      synced_stop n base' a b (omega (arith, n_is)) (a_is a b left ∙ sym base_is) was.there was.unsaid)

-- the log is copied home or begun anew, and the base is synced
pub quiet_stands : (deciding clearing' : Bool) (kept : ℕ) (slots : List ℕ) (base base' journal' : Blocks)
    (ml' : Outcomes) → deciding ≡ false → length slots ≡ 0 → base' ≡ base → kept ≤ length base
    → All (λ h. h < kept) slots → 2 ≤ length journal' → ((a b : Blocks) → ml' a b → a ≡ base')
    → ((a b : Blocks) → ml' a b → says (block_at 0 b) ≡ false) → ((a b : Blocks) → ml' a b → 0 < length b)
    → IsStanding deciding clearing' kept slots base' journal' ml'
quiet_stands deciding clearing' kept slots base base' journal' ml' e none same le below room a_is unsaid there =
    filled deciding clearing' kept slots base' journal' ml' e (λ c. none) (omega (arith, le, ap length same)) below
    (omega (arith, room, none))
    (λ a b left. synced_stop kept base' a b (omega (arith, le, ap length same)) (a_is a b left)
    (there a b left) (unsaid a b left))

-- nothing is open, and all is synced
pub open_stands : (clearing : Bool) (n : ℕ) (hs : List ℕ) (base journal : Blocks) (ml : Outcomes)
    → clearing ≡ false → hs ≡ [] → n ≡ length base → 2 ≤ length journal → says (block_at 0 journal) ≡ false
    → ((a b : Blocks) → ml a b → (a ≡ base) × (b ≡ journal)) → IsStanding false clearing n hs base journal ml
open_stands clearing n hs base journal ml settled none n_is room unsaid is =
    filled false clearing n hs base journal ml refl (settled_never clearing (length hs) settled)
    (omega (arith, n_is)) (none_below n hs none) (omega (arith, room, ap length none))
    (λ a b left. synced_stop n base a b (omega (arith, n_is)) (is a b left).0
    (omega (arith, room, ap length (is a b left).1))
    (ap (λ (c : Blocks). says (block_at 0 c)) (is a b left).1 ∙ unsaid))

-- the slots are given up
pub bare_stands : (deciding clearing : Bool) (kept : ℕ) (slots hs : List ℕ) (base journal : Blocks)
    (ml : Outcomes) → deciding ≡ false → clearing ≡ false → hs ≡ []
    → IsStanding deciding clearing kept slots base journal ml
    → IsStanding deciding clearing kept hs base journal ml
bare_stands deciding clearing kept slots hs base journal ml e settled none s =
    filled deciding clearing kept hs base journal ml e (settled_never clearing (length hs) settled) s.kept_there
    (none_below kept hs none) (omega (arith, s.room, ap length none))
    (filling deciding clearing kept slots base journal ml e s)

-- what stands behind a region that is taken in
pub taken_next : (slots : List ℕ) (journal b : Blocks) → IsRecorded slots journal
    → b ≡ drop (size_of journal) journal → (2 ≤ length b) × (says (block_at 0 b) ≡ false)
taken_next slots journal b r is =
    let n : ℕ = size_of journal in
    let size : size_of journal ≡ 2 + length slots + index_blocks (length slots) =
    recorded_size slots journal r in
    let none : size_of journal + 0 ≡ 2 + length slots + index_blocks (length slots) = omega (arith, size) in (
      omega (arith, ap length is, length-drop (size_of journal) journal, size, r.room),
      ap (λ (c : Blocks). says (block_at 0 c)) is
          ∙ ap says (get_or-drop (size_of journal) journal 0 [] ∙ ap (λ (k : ℕ). block_at k journal) none)
          ∙ r.last,
    )

-- the region behind the others is one that is committed
pub taken_region : (slots hs : List ℕ) (kept n : ℕ) (journal : Blocks) → hs ≡ slots → kept ≤ n
    → All (λ h. h < kept) slots → says (block_at 0 journal) ≡ true → IsRecorded slots journal
    → IsRegion hs n journal
taken_region slots hs kept n journal same le below said r =
    subst (λ (l : List ℕ). IsRegion l n journal) (sym same)
    (recorded_region slots journal r n said
    (All-weaker (λ h. h < kept) (λ h. h < n) (λ h lt. omega (arith, lt, le)) slots below))

-- ---- the commits then

pub commits_prepared : (deciding : Bool) (kept : ℕ) (slots : List ℕ) (base base' journal journal' : Blocks)
    → deciding ≡ false → base' ≡ base → journal' ≡ journal
    → CommitsNoMore (OrNew (CommitsIn deciding kept slots base journal) (shown_through slots journal base))
    (CommitsIn true kept slots base' journal')
commits_prepared deciding kept slots base base' journal journal' e b j c is = ⊎_elim
    (λ (old : c ≡ take kept base'). inl
    (subst (λ (t : Bool). CommitsIn t kept slots base journal c) (sym e) (old ∙ ap (take kept) b)))
    (λ (new : c ≡ shown_through slots journal' base'). inr
    (new ∙ ap (λ (x : Blocks). shown_through slots x base') j ∙ ap (shown_through slots journal) b))
    is

pub commits_taken : (deciding : Bool) (kept n : ℕ) (slots hs : List ℕ) (base base' journal journal' : Blocks)
    → deciding ≡ true → n ≡ length base' → base' ≡ shown_through slots journal base
    → CommitsNoMore (CommitsIn deciding kept slots base journal) (CommitsIn false n hs base' journal')
commits_taken deciding kept n slots hs base base' journal journal' e n_is base_is c is =
    subst (λ (t : Bool). CommitsIn t kept slots base journal c) (sym e)
    (inr (is ∙ take_all n base' (omega (arith, n_is)) ∙ base_is))
