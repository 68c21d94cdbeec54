-- What a device in memory keeps, through a write, and what a stop makes of it.
use Rattle.std.proofs.Common.{◌≡◌, ◌∙◌, ℕ, ◌+◌, ◌<◌, ◌≤◌, Bool, true, false, ◌||◌, nat_eq, if◌then◌else◌}
use Rattle.std.proofs.Common.{List, [], ◌∷◌, ◌++◌, length, take, set, get_or, Option, Some, None, sym, ap}
use Rattle.std.proofs.Common.{subst, arith, ⊎_elim, length-set}
use Rattle.std.specs.List.{All}
use Rattle.std.proofs.lemmas.List.{get_or-set_same, get_or-set_other, get_or_append_left, get_or_push}
use Rattle.std.proofs.lemmas.List.{length_push, take_at, set-set, set-get_or}
use Rattle.std.proofs.lemmas.List.Elements.{All-push}
use Rattle.std.proofs.lemmas.Bool.{cases_lt, cases_eq, cases_Bool, eq-eqb, ne_eqb, or_left, both_ways}
use Rattle.block_device.specs.Logged.{Write}
use Rattle.block_device.specs.Device.{Blocks, IsBlock, Follows, Torn, Elapses, block_at, written}
use Rattle.block_device.specs.History.{Event, Wrote, undone, IsThere, IsHistory, MayLeave, LeftSince, at_sync}
use Rattle.block_device.specs.History.{unsynced}
use Rattle.block_device.specs.Kept.{IsKept, IsOld, Keeps, is_in, is_logged}
use Rattle.block_device.specs.Outcomes.{sync_le, sync_same, set_blocks}
use Rattle.block_device.specs.Stop.{IsOutcome}
use Rattle.block_device.specs.Written.{set_written, push_written}
use Rattle.block_device.proofs.Numbers.{not_in, appended, logged_more, logged_last}
use Rattle.block_device.proofs.Stops.{outcome_before, elapses_more}

-- what follows from a write
pub record Adds (blocks after : Blocks) (es es' : List Event) (i : ℕ) (bytes : List ℕ) : Type 0 where
  pub shown : after ≡ written i bytes blocks
  pub certain : at_sync after es' ≡ at_sync blocks es
  pub numbers : unsynced es' ≡ i ∷ unsynced es
  pub stops : Follows (Torn i) (MayLeave blocks es) (MayLeave after es')
  pub time : Elapses (length es) (length es') (LeftSince blocks es) (LeftSince after es') (MayLeave after es')

-- a write of block i, which held `old` or was not there
module _ (blocks after : Blocks) (es es' : List Event) (i : ℕ) (old : Option (List ℕ)) (bytes : List ℕ)
    (shown : after ≡ written i bytes blocks) (e : es' ≡ Wrote i old ∷ es)
    (back : undone i old after ≡ blocks) (h : IsHistory blocks es) (at_most : i ≤ length blocks)
    (sized : All IsBlock blocks) where
  certain_same : at_sync after es' ≡ at_sync blocks es
  certain_same = ap (at_sync after) e ∙ ap (λ (x : Blocks). at_sync x es) back

  pub adds : Adds blocks after es es' i bytes
  adds = record {
    shown = shown;
    certain = certain_same;
    numbers = ap unsynced e;
    stops = λ c now. outcome_before blocks (at_sync blocks es) (unsynced es) i bytes at_most
        (sync_le blocks es h) sized c (
        subst (λ (x : Blocks). IsOutcome x (at_sync blocks es) (i ∷ unsynced es) c) shown
        (subst (λ (x : Blocks). IsOutcome after x (i ∷ unsynced es) c) certain_same
        (subst (λ (ns : List ℕ). IsOutcome after (at_sync after es') ns c) (ap unsynced e) now))
        );
    time = subst
        (λ (l : List Event). Elapses (length es) (length l) (LeftSince blocks es) (LeftSince after l)
        (MayLeave after l)) (sym e) (elapses_more blocks after es (Wrote i old) back);
  }

  pub leads : IsThere i old after → IsHistory after es'
  leads there =
      subst (λ (l : List Event). IsHistory after l) (sym e)
      (there, subst (λ (x : Blocks). IsHistory x es) (sym back) h)

-- whether block k was written, once block i was
marked_now : (k i : ℕ) (ns : List ℕ) → k ≡ i → is_in k (i ∷ ns) ≡ true
marked_now k i ns e = or_left (nat_eq k i) (is_in k ns) (eq-eqb k i e)

marked_other : (k i : ℕ) (ns : List ℕ) → ¬ (k ≡ i) → is_in k (i ∷ ns) ≡ is_in k ns
marked_other k i ns apart = ap (λ (t : Bool). t || is_in k ns) (ne_eqb k i apart)

-- a block that is there, written again
module _ (blocks : Blocks) (marks marks' : List Bool) (log log' : List Write) (synced : ℕ)
    (es es' : List Event) (i : ℕ) (old bytes : List ℕ)
    (k₀ : IsKept blocks marks log synced es) (lt : i < length blocks) (is : old ≡ block_at i blocks)
    (block : IsBlock bytes) (keeps : Keeps i old marks log marks' log')
    (e : es' ≡ Wrote i (Some old) ∷ es) where
  back : undone i (Some old) (set blocks i bytes) ≡ blocks
  back = set-set blocks i bytes old ∙ ap (set blocks i) is ∙ set-get_or blocks i []

  pub changes : Adds blocks (set blocks i bytes) es es' i bytes
  changes =
      adds blocks (set blocks i bytes) es es' i (Some old) bytes (set_written i bytes blocks lt) e back
      k₀.leads (omega (arith, lt)) k₀.whole

  certain : at_sync (set blocks i bytes) es' ≡ at_sync blocks es
  certain = changes.certain

  unwritten : get_or marks i false ≡ false → is_in i (unsynced es) ≡ false
  unwritten none = sym (k₀.marked i lt) ∙ none

  there_then : get_or marks i false ≡ false → i < length (at_sync blocks es)
  there_then none = ⊎_elim
      (λ (below : i < length (at_sync blocks es)). below)
      (λ (above : length (at_sync blocks es) ≤ i). absurd
      (both_ways (is_in i (unsynced es)) (unwritten none) (appended blocks es i k₀.leads above lt)))
      (cases_lt i (length (at_sync blocks es)))

  is_old : get_or marks i false ≡ false → IsOld (at_sync blocks es) (record { at = i; old = old })
  is_old none = (
    there_then none,
    is
        ∙ sym (sync_same blocks es i k₀.leads (not_in i (unsynced es) (unwritten none)) (there_then none)),
  )

  log_if : (t : Bool) → get_or marks i false ≡ t
      → log' ≡ (if t then log else log ++ record { at = i; old = old } ∷ [])
  log_if t t_is = keeps.logged
      ∙ ap (λ (b : Bool). if b then log else log ++ record { at = i; old = old } ∷ []) t_is

  earlier : (k : ℕ) → ¬ (k ≡ i) → is_in k (unsynced es') ≡ true → is_in k (unsynced es) ≡ true
  earlier k apart one = sym (marked_other k i (unsynced es) apart)
      ∙ sym (ap (λ (l : List Event). is_in k (unsynced l)) e) ∙ one

  pub changed : IsKept (set blocks i bytes) marks' log' synced es'
  changed = record {
    whole = set_blocks i bytes blocks block k₀.whole;
    leads = leads blocks (set blocks i bytes) es es' i (Some old) bytes (set_written i bytes blocks lt) e
        back k₀.leads (omega (arith, lt)) k₀.whole
        (omega (arith, lt, length-set blocks i bytes), subst IsBlock (sym is) (k₀.whole i [] lt));
    as_many = ap length keeps.marked ∙ length-set marks i true ∙ k₀.as_many ∙ sym (length-set blocks i bytes);
    marked = λ k less. ap (λ (l : List Bool). get_or l k false) keeps.marked
        ∙ ⊎_elim
        (λ (here : k ≡ i). subst (λ (j : ℕ). get_or (set marks i true) j false ≡ true) (sym here)
        (get_or-set_same marks i true false (omega (arith, lt, k₀.as_many)))
        ∙ sym (marked_now k i (unsynced es) here))
        (λ (apart : ¬ (k ≡ i)). get_or-set_other marks i k true false apart
        ∙ k₀.marked k (omega (arith, less, length-set blocks i bytes))
        ∙ sym (marked_other k i (unsynced es) apart))
        (cases_eq k i)
        ∙ sym (ap (λ (l : List Event). is_in k (unsynced l)) e);
    synced_is = k₀.synced_is ∙ sym (ap length certain);
    logged = λ k less one. ⊎_elim
        (λ (t : get_or marks i false ≡ true). ap (is_logged k) (log_if true t) ∙ ⊎_elim
        (λ (here : k ≡ i). k₀.logged k less
        (ap (λ (j : ℕ). is_in j (unsynced es)) here ∙ sym (k₀.marked i lt) ∙ t))
        (λ (apart : ¬ (k ≡ i)). k₀.logged k less (earlier k apart one))
        (cases_eq k i))
        (λ (t : get_or marks i false ≡ false). ap (is_logged k) (log_if false t) ∙ ⊎_elim
        (λ (here : k ≡ i). ap (λ (j : ℕ). is_logged j (log ++ record { at = i; old = old } ∷ [])) here
        ∙ logged_last log (record { at = i; old = old }))
        (λ (apart : ¬ (k ≡ i)). logged_more k log (record { at = i; old = old })
        (k₀.logged k less (earlier k apart one)))
        (cases_eq k i))
        (cases_Bool (get_or marks i false));
    old = subst (λ (s : Blocks). All (IsOld s) log') (sym certain) (⊎_elim
        (λ (t : get_or marks i false ≡ true). subst (λ (l : List Write). All (IsOld (at_sync blocks es)) l)
        (sym (log_if true t)) k₀.old)
        (λ (t : get_or marks i false ≡ false). subst (λ (l : List Write). All (IsOld (at_sync blocks es)) l)
        (sym (log_if false t))
        (All-push (IsOld (at_sync blocks es)) log (record { at = i; old = old }) k₀.old (is_old t)))
        (cases_Bool (get_or marks i false)));
  }

-- one more block
module _ (blocks blocks' : Blocks) (marks marks' : List Bool) (log : List Write) (synced : ℕ)
    (es es' : List Event) (i : ℕ) (bytes : List ℕ)
    (k₀ : IsKept blocks marks log synced es) (block : IsBlock bytes) (last : i ≡ length blocks)
    (pushed : blocks' ≡ blocks ++ bytes ∷ []) (marked_too : marks' ≡ marks ++ true ∷ [])
    (e : es' ≡ Wrote i None ∷ es) where
  size : length blocks' ≡ i + 1
  size = ap length pushed ∙ length_push blocks bytes
      ∙ (let s : length blocks + 1 ≡ i + 1 = omega (arith, last) in s)

  undo : undone i None blocks' ≡ blocks
  undo = ap (take i) pushed ∙ take_at blocks (bytes ∷ []) i (sym last)

  shown_is : blocks' ≡ written i bytes blocks
  shown_is = pushed ∙ push_written i bytes blocks (omega (arith, last))

  pub appends : Adds blocks blocks' es es' i bytes
  appends = adds blocks blocks' es es' i None bytes shown_is e undo k₀.leads (omega (arith, last)) k₀.whole

  pub appended_kept : IsKept blocks' marks' log synced es'
  appended_kept = record {
    whole = subst (λ (bs : Blocks). All IsBlock bs) (sym pushed)
        (All-push IsBlock blocks bytes k₀.whole block);
    leads = leads blocks blocks' es es' i None bytes shown_is e undo k₀.leads (omega (arith, last)) k₀.whole
        (sym size);
    as_many = omega (arith, size, ap length marked_too, length_push marks true, k₀.as_many, last);
    marked = λ k less. ap (λ (l : List Bool). get_or l k false) marked_too
        ∙ ⊎_elim
        (λ (here : k ≡ i). get_or_push marks true false k (omega (arith, here, last, k₀.as_many))
        ∙ sym (marked_now k i (unsynced es) here))
        (λ (apart : ¬ (k ≡ i)).
        let below : k < length blocks = omega (arith, less, size, last, apart) in
        get_or_append_left marks (true ∷ []) false k (omega (arith, below, k₀.as_many)) ∙ k₀.marked k below
        ∙ sym (marked_other k i (unsynced es) apart))
        (cases_eq k i)
        ∙ sym (ap (λ (l : List Event). is_in k (unsynced l)) e);
    synced_is = k₀.synced_is ∙ sym (ap length appends.certain);
    logged = λ k less one.
        let apart : ¬ (k ≡ i) =
        λ here. omega (arith, here, less, last, k₀.synced_is, sync_le blocks es k₀.leads) in
        k₀.logged k less
        (sym (marked_other k i (unsynced es) apart)
        ∙ sym (ap (λ (l : List Event). is_in k (unsynced l)) e) ∙ one);
    old = subst (λ (s : Blocks). All (IsOld s) log) (sym appends.certain) k₀.old;
  }
