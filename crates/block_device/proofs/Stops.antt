-- What one more event makes of the outcomes of a stop, and which outcomes a stop can be told to leave.
use Rattle.std.proofs.Common.{◌≡◌, ◌∙◌, true, false, ℕ, zero, suc, ◌+◌, ◌<◌, ◌≤◌, List, [], ◌∷◌, length, take}
use Rattle.std.proofs.Common.{set, get_or, refl, sym, subst, arith, inl, inr, ⊎_elim, length-set}
use Rattle.std.specs.List.{All, Contains}
use Rattle.std.proofs.lemmas.List.{same_lists, get_or-set_same, get_or-set_other, get_or-take, length-take-le}
use Rattle.std.proofs.lemmas.List.{get_or_default}
use Rattle.std.proofs.lemmas.Bool.{cases_lt, cases_eq, cases_Bool}
use Rattle.block_device.specs.Device.{Blocks, IsBlock, Torn, Elapses, block_at, written}
use Rattle.block_device.specs.History.{Event, Synced, before, IsHistory, MayLeave, LeftSince, at_sync}
use Rattle.block_device.specs.History.{unsynced}
use Rattle.block_device.specs.Kept.{is_in}
use Rattle.block_device.specs.Stop.{IsOutcome, IsFilled}
use Rattle.block_device.specs.Outcomes.{sync_le, sync_same, sync_blocks, set_blocks, take_blocks}
use Rattle.block_device.proofs.Numbers.{contains_from, not_in}
use Rattle.block_device.specs.Written.{length-written_within, length-written_behind, block_at-written_other}
use Rattle.block_device.specs.Written.{torn_within, torn_behind}

-- one of the list, where it is not the first
later_only : (k i : ℕ) (ns : List ℕ) → ¬ (k ≡ i) → ¬ Contains ns k → ¬ Contains (i ∷ ns) k
later_only k i ns apart none one = from one.0 one.1 one.2
  where
    from : (place : ℕ) → place < suc (length ns) → get_or (i ∷ ns) place k ≡ k → ⊥
    from zero lt is = apart (sym is)
    from (suc place) lt is = none (place, omega (arith, lt), is)

-- an outcome after a write of block i is one before it, torn there
module _ (shown synced : Blocks) (numbers : List ℕ) (i : ℕ) (b : List ℕ) (at_most : i ≤ length shown)
    (no_more : length synced ≤ length shown) (sized : All IsBlock shown)
    (c : Blocks) (o : IsOutcome (written i b shown) synced (i ∷ numbers) c) where
  same_there : (k : ℕ) → ¬ (k ≡ i) → ¬ Contains numbers k → k < length c → block_at k c ≡ block_at k shown
  same_there k apart none lt = o.others k (later_only k i numbers apart none) lt
      ∙ block_at-written_other i k b shown at_most apart

  within : i < length shown → i < length c → (d : Blocks) × IsOutcome shown synced numbers d × Torn i d c
  within there lt =
      let d : Blocks = set c i (block_at i shown) in
      let size : length d ≡ length c = length-set c i (block_at i shown) in (
        d,
        record {
          no_shorter = omega (arith, size, o.no_shorter);
          no_longer = omega (arith, size, o.no_longer, length-written_within i b shown there);
          whole = set_blocks i (block_at i shown) c (sized i [] there) o.whole;
          others = λ k none less. ⊎_elim
              (λ (e : k ≡ i). subst (λ (j : ℕ). block_at j d ≡ block_at j shown) (sym e)
              (get_or-set_same c i (block_at i shown) [] lt))
              (λ (apart : ¬ (k ≡ i)). get_or-set_other c i k (block_at i shown) [] apart
              ∙ same_there k apart none (omega (arith, less, size)))
              (cases_eq k i);
        },
        torn_within i (block_at i shown) c lt (o.whole i [] lt),
      )

  behind : length shown ≤ i → i < length c → (d : Blocks) × IsOutcome shown synced numbers d × Torn i d c
  behind last lt =
      let all : length c ≡ i + 1 =
      omega (arith, lt, o.no_longer, length-written_behind i b shown last, at_most) in
      let size : length (take i c) ≡ i = length-take-le i c (omega (arith, lt)) in (
        take i c,
        record {
          no_shorter = omega (arith, size, no_more, at_most, last);
          no_longer = omega (arith, size, at_most);
          whole = take_blocks i c (omega (arith, lt)) o.whole;
          others = λ k none less. get_or-take i c k [] (omega (arith, less, size))
              ∙ same_there k (λ e. omega (arith, e, less, size)) none (omega (arith, less, size, lt));
        },
        torn_behind i c all (o.whole i [] lt),
      )

  missing : length c ≤ i → (d : Blocks) × IsOutcome shown synced numbers d × Torn i d c
  missing short = (
    c,
    record {
      no_shorter = o.no_shorter;
      no_longer = omega (arith, short, at_most);
      whole = o.whole;
      others = λ k none less. same_there k (λ e. omega (arith, e, less, short)) none less;
    },
    inl refl,
  )

  pub outcome_before : (d : Blocks) × IsOutcome shown synced numbers d × Torn i d c
  outcome_before = ⊎_elim
      (λ (lt : i < length c). ⊎_elim (λ (there : i < length shown). within there lt)
      (λ (last : length shown ≤ i). behind last lt) (cases_lt i (length shown)))
      missing
      (cases_lt i (length c))

-- one more event
pub elapses_more : (old new : Blocks) (es : List Event) (e : Event) → before e new ≡ old
    → Elapses (length es) (length (e ∷ es)) (LeftSince old es) (LeftSince new (e ∷ es))
    (MayLeave new (e ∷ es))
elapses_more old new es e is = record {
  later = omega arith;
  nothing_else = λ t c le left. ⊎_elim
      (λ (now : MayLeave new (e ∷ es) c). inr now)
      (λ (past : (t ≤ length es) × LeftSince (before e new) es t c). inl
      (subst (λ (b : Blocks). LeftSince b es t c) is past.1))
      left;
  keeps = λ t c le left. inr (le, subst (λ (b : Blocks). LeftSince b es t c) (sym is) left);
}

-- after a sync a stop leaves what is read
pub only_shown : (blocks : Blocks) (es : List Event) (c : Blocks) → MayLeave blocks (Synced ∷ es) c
    → c ≡ blocks
only_shown blocks es c now = same_lists c blocks (omega (arith, now.no_shorter, now.no_longer)) (λ k d lt.
    get_or_default c k d [] lt
    ∙ now.others k (λ one. omega (arith, one.1)) lt
    ∙ get_or_default blocks k [] d (omega (arith, lt, now.no_longer)))

-- what was read at the last sync is one of the outcomes
pub synced_left : (blocks : Blocks) (es : List Event) → All IsBlock blocks → IsHistory blocks es
    → MayLeave blocks es (at_sync blocks es)
synced_left blocks es sized h = record {
  no_shorter = omega arith;
  no_longer = sync_le blocks es h;
  whole = sync_blocks blocks es h sized;
  others = λ k none lt. sync_same blocks es k h none lt;
}

filled_blocks : (bytes : List ℕ) (numbers : List ℕ) (old new : Blocks) → IsBlock bytes → All IsBlock old
    → IsFilled bytes numbers old new → All IsBlock new
filled_blocks bytes numbers old new block sized filled k d lt =
    let below : k < length old = omega (arith, lt, filled.as_many) in
    subst IsBlock (get_or_default new k [] d lt) (⊎_elim
    (λ (one : is_in k numbers ≡ true). subst IsBlock
    (sym (filled.there k (contains_from k numbers one) below)) block)
    (λ (none : is_in k numbers ≡ false). subst IsBlock (sym (filled.others k (not_in k numbers none)))
    (sized k [] below))
    (cases_Bool (is_in k numbers)))

-- filled blocks are one of the outcomes
pub filled_left : (bytes : List ℕ) (blocks c : Blocks) (es : List Event) → IsBlock bytes → All IsBlock blocks
    → IsHistory blocks es → IsFilled bytes (unsynced es) blocks c → MayLeave blocks es c
filled_left bytes blocks c es block sized h filled = record {
  no_shorter = omega (arith, filled.as_many, sync_le blocks es h);
  no_longer = omega (arith, filled.as_many);
  whole = filled_blocks bytes (unsynced es) blocks c block sized filled;
  others = λ k none lt. filled.others k none;
}
