-- What stops leave of a store.
use Rattle.std.proofs.Common.{◌≡◌, ◌≤◌, ℕ, zero, suc, List, [], ◌∷◌, Bool, true, false, cond, refl, sym, ap}
use Rattle.std.proofs.Common.{subst, arith, inl, inr, ⊎_elim}
use Rattle.std.specs.Prelude.{◌⊎◌, Result, Ok, Err}
use Rattle.std.specs.List.{Contains}
use Rattle.block_device.specs.Device.{Blocks, LeavesOnly, BeginsOne, Only}
use Rattle.block_device.specs.Moments.{leaves_weaker, started}
use Rattle.live_layers.specs.Changes.{ChangeLeaves}
use Rattle.live_layers.specs.Closings.{ClosingLeaves}
use Rattle.live_layers.specs.Image.{IsImage, IsRefusedOrImageOf, MayRemain, CommitsWhatOpens, IsImageOfOne}
use Rattle.live_layers.specs.Keeping.{Leaves, LeavesAtRest, RestLeavesOneOf, IsFound}
use Rattle.live_layers.specs.Unmade.{told}
use Rattle.live_layers.specs.declared.layers.Layers.{Layers}
use Rattle.live_layers.specs.declared.unmade.Unmade.{Unmade}
use Rattle.live_layers.specs.declared.unmade.Unmade.TheVariants as unmade
use Rattle.live_layers.proofs.RecoveryLemmas.{found_after, image_kept, kept_after, one_among, one_longer}
use Rattle.live_layers.proofs.StopLemmas.{by_gate, leaves_kept, or_this, rest_leaves, rests_on_image}
use Rattle.live_layers.proofs.StopLemmas.{shut_is_durable, this_one}
use Rattle.page_cache.specs.Cache.{IsHonest, KeepsGate, blocks_of, device_of, gate_of}
use Rattle.page_cache.specs.declared.cache.PageCache.{PageCache}
use Rattle.page_file.specs.Laws.{stops_of_a_run_go_on}
use Rattle.page_file.specs.Opening.{IsRefused}
use Rattle.page_file.specs.Stops.{StopSince}
use Rattle.page_file.specs.declared.gate.Gate.{Gate}
use Rattle.page_file.specs.declared.gate.Gate.TheVariants.{Open, Shut}
use Rattle.plain_table.specs.Answers.{done_answer}
use Rattle.plain_table.specs.Commands.{Command}
use Rattle.plain_table.specs.Commands.Command.{Reopen}
use Rattle.plain_table.specs.Step.{after}
use Rattle.plain_table.specs.Step.Answer.{Refused, Done}
use Rattle.plain_table.specs.Table.{Table}
use Rattle.plain_table.specs.declared.refusal.Refusal.{Refusal}
use Rattle.store_law.specs.Sessions.{SessionState}
use Rattle.store_law.specs.Stops.{AfterStop, Stops, after_change, after_command, is_end, tables_left}
use Rattle.store_law.specs.Stops.{with_now}
use Rattle.store_law.specs.Stops.AfterStop.{Surely, Perhaps}
use Rattle.layer_store.specs.Representation.{IsOfStore, Represents, blocks_in, cache_in, closed_since}
use Rattle.layer_store.specs.Representation.{device_in, from_now, resting_on, stops_from_now}
use Rattle.layer_store.specs.declared.store.Store.{Store}

-- ---- lists of tables

contains_more : (t u : Table) (ts : List Table) → Contains ts t → Contains (u ∷ ts) t
contains_more t u ts (k, lt, is) = (suc k, omega (arith, lt), is)

contains_one : (t u : Table) (ts : List Table) → Contains (u ∷ []) t → Contains (u ∷ ts) t
contains_one t u ts (zero, lt, is) = (0, omega arith, is)
contains_one t u ts (suc k, lt, is) = absurd (omega (arith, lt))

contains_none : (t : Table) (ts : List Table) → Contains [] t → Contains ts t
contains_none t ts there = absurd (omega (arith, there.1))

-- one more of which a table is left
pub left_among : (ts us : List Table) (c : Blocks) → ((t : Table) → Contains ts t → Contains us t)
    → IsRefusedOrImageOf ts c → IsRefusedOrImageOf us c
left_among ts us c among (inl refused) = inl refused
left_among ts us c among (inr (u, there, image)) = inr (u, among u there, image)

pub either_among : (t : Table) (ts us : List Table) → ((u : Table) → Contains ts u → Contains us u)
    → (u : Table) → Contains (t ∷ ts) u → Contains (t ∷ us) u
either_among t ts us among u (zero, lt, is) = (0, omega arith, is)
either_among t ts us among u (suc k, lt, is) = contains_more u t us (among u (k, omega (arith, lt), is))

-- what is left where a change or a closing gave up
gave_up : (r : Refusal) (left : AfterStop) → is_end r ≡ false
    → Perhaps (tables_left left) ≡ after_change left (Refused r)
gave_up r left e = sym (ap (λ (b : Bool). cond b (Perhaps []) (Perhaps (tables_left left))) e)

refused_closing : (t : Table) (r : Refusal) (stops : Stops) → is_end r ≡ false
    → record {
      now = Perhaps (t ∷ tables_left stops.now);
      since = stops.since;
      so_far = t ∷ stops.so_far;
      kept = t ∷ stops.kept;
      kept_so_far = t ∷ stops.kept_so_far;
    } ≡ after_command t stops Reopen (Refused r)
refused_closing t r stops e = sym (ap (λ (b : Bool). record {
  now = cond b (Surely t) (Perhaps (t ∷ tables_left stops.now));
  since = stops.since;
  so_far = t ∷ stops.so_far;
  kept = cond b (t ∷ []) (t ∷ stops.kept);
  kept_so_far = t ∷ stops.kept_so_far;
}) e)

module _ {D A : Type 0} {m : _} where
  -- of each moment's stops those now are left now
  abbrev pub OnlyNow : PageCache D A m → Type 0
  OnlyNow cache = (c : Blocks) → m.left_since (device_of cache) (m.moment (device_of cache)) c
      → m.may_leave (device_of cache) c

  -- a stop now brings back a commit; and where all is durable, what is read is the one commit
  abbrev pub BroughtNow : PageCache D A m → Type 0
  BroughtNow cache = (c : Blocks) → m.recovery.found_since (device_of cache) (m.moment (device_of cache)) c
      → BeginsOne (m.recovery.commits (device_of cache)) c

  abbrev pub OneCommit : PageCache D A m → Type 0
  OneCommit cache = (k : Blocks) → Only (blocks_of cache) (m.may_leave (device_of cache))
      → m.recovery.takes (blocks_of cache) → m.recovery.commits (device_of cache) k → k ≡ blocks_of cache

  -- behind a shut gate the image is the one commit
  pub settled_kept : (cache : PageCache D A m) (t : Table) → IsHonest cache → OneCommit cache
      → gate_of cache ≡ Shut → IsImage (blocks_of cache) t → CommitsWhatOpens m.recovery → (k : Blocks)
      → m.recovery.commits (device_of cache) k → IsImageOfOne (t ∷ []) k
  settled_kept cache t honest one shut image opens k is =
      image_kept (blocks_of cache) t [] k image
      (one k (shut_is_durable cache honest shut) ((opens (blocks_of cache)).1 image.passes) is)

  pub found_now : (cache : PageCache D A m) (kept : List Table) → BroughtNow cache
      → ((k : Blocks) → m.recovery.commits (device_of cache) k → IsImageOfOne kept k)
      → IsFound cache (m.moment (device_of cache)) kept kept
  found_now cache kept brought now =
      record {
        now = now;
        so_far = λ c is. let one = brought c is in
            one_longer kept c (one.0, now one.0 one.1, one.2);
      }

  -- with one table more
  pub found_more : (cache : PageCache D A m) (t : Table) (stops : Stops)
      → IsFound cache stops.since stops.kept stops.kept_so_far
      → IsFound cache stops.since (t ∷ stops.kept) (t ∷ stops.kept_so_far)
  found_more cache t stops found = record {
    now = λ k is. one_among stops.kept (t ∷ stops.kept) k (λ u there. contains_more u t stops.kept there)
        (found.now k is);
    so_far =
        λ c is. one_among stops.kept_so_far (t ∷ stops.kept_so_far) c
        (λ u there. contains_more u t stops.kept_so_far there) (found.so_far c is);
  }

  -- ---- at rest

  -- the tables of which a stop may leave an image
  pub left_rests : (cache : PageCache D A m) (left : AfterStop) → LeavesAtRest cache left
      → RestLeavesOneOf cache (tables_left left)
  left_rests cache (Surely t) there = rests_on_image cache t there.1
  left_rests cache (Perhaps ts) there = there

  -- what a stop may leave
  pub at_rest_leaves : (cache : PageCache D A m) (left : AfterStop) → IsHonest cache
      → LeavesAtRest cache left → (c : Blocks) → m.may_leave (device_of cache) c → MayRemain left c
  at_rest_leaves cache (Surely t) honest there c stop =
      subst (λ (blocks : Blocks). IsImage blocks t) (sym (shut_is_durable cache honest there.0 c stop))
      there.1
  at_rest_leaves cache (Perhaps ts) honest there c stop = rest_leaves cache ts honest there c stop

  -- ---- a command that keeps the gate

  -- what one since the gate's moment leaves
  since_leaves : (cache : PageCache D A m) (left : AfterStop) (c : Blocks) → LeavesAtRest cache left
      → StopSince (gate_of cache) (blocks_of cache) c → MayRemain left c
  since_leaves cache (Surely t) c there stop =
      subst (λ (blocks : Blocks). IsImage blocks t)
      (sym (subst (λ (gate : Gate). StopSince gate (blocks_of cache) c) there.0 stop)) there.1
  since_leaves cache (Perhaps ts) c there stop =
      by_gate (gate_of cache) (blocks_of cache) c ts (λ closed same. there closed c same) stop

  -- a stop within it leaves what one before it leaves
  pub kept_leaves : (old new : PageCache D A m) (left : AfterStop) → IsHonest old → OnlyNow old
      → LeavesAtRest old left → KeepsGate old new
      → LeavesOnly m.moment m.left_since m.recovery (device_of old) (device_of new) (MayRemain left)
  kept_leaves old new left honest now there keeps =
      leaves_weaker m.moment m.left_since m.recovery (device_of old) (device_of new)
      (λ c. MayRemain left c ⊎ StopSince (gate_of old) (blocks_of old) c) (MayRemain left)
      (λ c. ⊎_elim (λ (p : MayRemain left c). p) (λ stop. since_leaves old left c there stop))
      (stops_of_a_run_go_on (device_of old) old.file new.file (MayRemain left) honest
      (started m.moment m.left_since m.recovery (device_of old) (MayRemain left)
      (λ c stop. at_rest_leaves old left honest there c (now c stop))) keeps)

  -- where the gate is shut it leaves the blocks as they are
  pub read_alone : (old new : PageCache D A m) → IsHonest old → OnlyNow old → gate_of old ≡ Shut
      → KeepsGate old new
      → LeavesOnly m.moment m.left_since m.recovery (device_of old) (device_of new) (λ c. c ≡ blocks_of old)
  read_alone old new honest now shut keeps =
      leaves_weaker m.moment m.left_since m.recovery (device_of old) (device_of new)
      (λ c. (c ≡ blocks_of old) ⊎ StopSince (gate_of old) (blocks_of old) c) (λ c. c ≡ blocks_of old)
      (λ c. ⊎_elim (λ same. same)
      (λ stop. subst (λ (gate : Gate). StopSince gate (blocks_of old) c) shut stop))
      (stops_of_a_run_go_on (device_of old) old.file new.file (λ c. c ≡ blocks_of old) honest
      (started m.moment m.left_since m.recovery (device_of old) (λ c. c ≡ blocks_of old)
      (λ c stop. shut_is_durable old honest shut c (now c stop))) keeps)

  -- ---- a change

  -- after a command that leaves no more than what was left at rest, and rests on fewer tables
  leaves_after : (old new : PageCache D A m) (stops : Stops) (now : AfterStop)
      → LeavesOnly m.moment m.left_since m.recovery (device_of old) (device_of new)
      (IsRefusedOrImageOf (tables_left stops.now)) → Leaves old stops → LeavesAtRest new now
      → ((u : Table) → Contains (tables_left now) u → Contains (tables_left stops.now) u)
      → Leaves new (with_now now stops)
  leaves_after old new stops now run was rest within = record {
    now = rest;
    begun = omega (arith, was.begun, run.later);
    so_far =
        λ c left. ⊎_elim (λ before. was.so_far c before)
        (λ here. left_among (tables_left stops.now) stops.so_far c was.among here)
        (run.before stops.since c was.begun left);
    among = λ u there. was.among u (within u there);
    kept_among = λ u there. was.kept_among u (within u there);
    kept_before = was.kept_before;
    found = λ opens.
        let found = was.found opens in
        let ts = tables_left stops.now in
        record {
          now = kept_after m.moment m.recovery (device_of old) (device_of new) ts stops.kept stops.kept opens
              run.brings found.now (λ u there. there) was.kept_among;
          so_far =
              found_after m.moment m.recovery (device_of old) (device_of new) ts stops.kept stops.kept opens
              run.brings found.now (λ u there. there) was.kept_among stops.since stops.kept_so_far was.begun
              found.so_far was.kept_before;
        };
  }

  -- one that was begun opened the gate, and leaves nothing that is opened
  begun_leaves : (old new : PageCache D A m) (stops : Stops)
      → LeavesOnly m.moment m.left_since m.recovery (device_of old) (device_of new)
      (IsRefusedOrImageOf (tables_left stops.now)) → Leaves old stops → gate_of new ≡ Open
      → Leaves new (with_now (Perhaps []) stops)
  begun_leaves old new stops run was opened =
      leaves_after old new stops (Perhaps []) run was (λ closed. absurd (closed opened))
      (λ u there. contains_none u (tables_left stops.now) there)

  -- what stops leave after a change that may have changed the table
  module _ (old new : Layers D A m) (t : Table) (c : Command) (stops : Stops) (honest : IsHonest old.cache)
      (was : Leaves old.cache stops) where
    abbrev After : Bool → Result (Unit {0}) Unmade → Type 0
    After b made =
        Leaves new.cache (cond b (with_now (after_change stops.now (done_answer (told made))) stops) stops)

    rests : RestLeavesOneOf old.cache (tables_left stops.now)
    rests = left_rests old.cache stops.now was.now

    kept : (made : Result (Unit {0}) Unmade) → ChangeLeaves old new t c made → after t c ≡ t
        → Leaves new.cache stops
    kept made leaves same = leaves_kept old.cache new.cache stops honest (leaves.quiet same) was

    pub change_leaves : (b : Bool) (made : Result (Unit {0}) Unmade) → ChangeLeaves old new t c made
        → (b ≡ false → after t c ≡ t) → (b ≡ true → ¬ (after t c ≡ t))
        → ((r : Refusal) → made ≡ Err (unmade.Refused r) → b ≡ true → is_end r ≡ false) → After b made
    change_leaves false made leaves quiet other no_end = kept made leaves (quiet refl)
    change_leaves true (Ok u) leaves quiet other no_end =
        begun_leaves old.cache new.cache stops (leaves.stops (tables_left stops.now) rests) was
        (leaves.opened (other refl) tt)
    change_leaves true (Err (unmade.Broken f)) leaves quiet other no_end =
        begun_leaves old.cache new.cache stops (leaves.stops (tables_left stops.now) rests) was
        (leaves.opened (other refl) tt)
    change_leaves true (Err (unmade.Refused r)) leaves quiet other no_end =
        subst (λ (now : AfterStop). Leaves new.cache (with_now now stops))
        (gave_up r stops.now (no_end r refl refl))
        (leaves_after old.cache new.cache stops (Perhaps (tables_left stops.now))
        (leaves.stops (tables_left stops.now) rests) was (leaves.rests (tables_left stops.now) rests)
        (λ u there. there))

  -- ---- a closing

  -- a commit is of what was kept, or of the table that is closed; and so is what is found
  closing_kept : (old new : PageCache D A m) (t : Table) (stops : Stops)
      → LeavesOnly m.moment m.left_since m.recovery (device_of old) (device_of new)
      (IsRefusedOrImageOf (t ∷ tables_left stops.now)) → Leaves old stops → CommitsWhatOpens m.recovery
      → (k : Blocks) → m.recovery.commits (device_of new) k → IsImageOfOne (t ∷ stops.kept) k
  closing_kept old new t stops closing was opens =
      kept_after m.moment m.recovery (device_of old) (device_of new) (t ∷ tables_left stops.now) stops.kept
      (t ∷ stops.kept) opens closing.brings (was.found opens).now
      (λ u there. contains_more u t stops.kept there)
      (either_among t (tables_left stops.now) stops.kept was.kept_among)

  closing_found : (old : PageCache D A m) (device : D) (t : Table) (stops : Stops)
      → LeavesOnly m.moment m.left_since m.recovery (device_of old) device
      (IsRefusedOrImageOf (t ∷ tables_left stops.now)) → Leaves old stops → CommitsWhatOpens m.recovery
      → (c : Blocks) → m.recovery.found_since device stops.since c → IsImageOfOne (t ∷ stops.kept_so_far) c
  closing_found old device t stops closing was opens =
      found_after m.moment m.recovery (device_of old) device (t ∷ tables_left stops.now) stops.kept
      (t ∷ stops.kept) opens closing.brings (was.found opens).now
      (λ u there. contains_more u t stops.kept there)
      (either_among t (tables_left stops.now) stops.kept was.kept_among)
      stops.since (t ∷ stops.kept_so_far) was.begun
      (λ c is. one_among stops.kept_so_far (t ∷ stops.kept_so_far) c
      (λ u there. contains_more u t stops.kept_so_far there) ((was.found opens).so_far c is))
      (either_among t stops.kept stops.kept_so_far was.kept_before)

  -- after a closing of the table, refused or not, which keeps those tables
  closing_leaves : (old new : PageCache D A m) (t : Table) (stops : Stops) (now : AfterStop)
      (kept : List Table)
      → LeavesOnly m.moment m.left_since m.recovery (device_of old) (device_of new)
      (IsRefusedOrImageOf (t ∷ tables_left stops.now)) → Leaves old stops → LeavesAtRest new now
      → ((u : Table) → Contains (tables_left now) u → Contains (t ∷ tables_left stops.now) u)
      → ((u : Table) → Contains (tables_left now) u → Contains kept u)
      → ((u : Table) → Contains kept u → Contains (t ∷ stops.kept) u)
      → (CommitsWhatOpens m.recovery → (k : Blocks) → m.recovery.commits (device_of new) k
      → IsImageOfOne kept k)
      → Leaves new
      (record {
        now = now;
        since = stops.since;
        so_far = t ∷ stops.so_far;
        kept = kept;
        kept_so_far = t ∷ stops.kept_so_far;
      })
  closing_leaves old new t stops now kept closing was rest within kept_within kept_more keeps = record {
    now = rest;
    begun = omega (arith, was.begun, closing.later);
    so_far = λ c left. ⊎_elim (λ before. or_this stops.so_far t c (was.so_far c before))
        (λ here. left_among (t ∷ tables_left stops.now) (t ∷ stops.so_far) c
        (either_among t (tables_left stops.now) stops.so_far was.among) here)
        (closing.before stops.since c was.begun left);
    among = λ u there. either_among t (tables_left stops.now) stops.so_far was.among u (within u there);
    kept_among = kept_within;
    kept_before =
        λ u there. either_among t stops.kept stops.kept_so_far was.kept_before u (kept_more u there);
    found = λ opens.
        record { now = keeps opens; so_far = closing_found old (device_of new) t stops closing was opens };
  }

  -- after one that was finished
  finished_leaves : (old new : Layers D A m) (t : Table) (stops : Stops)
      → LeavesOnly m.moment m.left_since m.recovery (device_of old.cache) (device_of new.cache)
      (IsRefusedOrImageOf (t ∷ tables_left stops.now))
      → (gate_of new.cache ≡ Shut) × IsImage (blocks_of new.cache) t
      → IsHonest new.cache → OneCommit new.cache → Leaves old.cache stops
      → Leaves new.cache (after_command t stops Reopen Done)
  finished_leaves old new t stops run closed honest one was =
      closing_leaves old.cache new.cache t stops (Surely t) (t ∷ []) run was closed
      (λ u there. contains_one u t (tables_left stops.now) there)
      (λ u there. there) (λ u there. contains_one u t stops.kept there)
      (settled_kept new.cache t honest one closed.0 closed.1)

  pub reopening_leaves : (old new : Layers D A m) (t : Table) (stops : Stops)
      (made : Result (Unit {0}) Unmade) → ClosingLeaves old new t made
      → ((r : Refusal) → made ≡ Err (unmade.Refused r) → is_end r ≡ false) → IsHonest new.cache
      → OneCommit new.cache → Leaves old.cache stops
      → Leaves new.cache (after_command t stops Reopen (done_answer (told made)))
  reopening_leaves old new t stops (Ok u) leaves no_end honest one was =
      finished_leaves old new t stops
      (leaves.stops (tables_left stops.now) (left_rests old.cache stops.now was.now)) (leaves.closed tt)
      honest one was
  reopening_leaves old new t stops (Err (unmade.Broken f)) leaves no_end honest one was =
      finished_leaves old new t stops
      (leaves.stops (tables_left stops.now) (left_rests old.cache stops.now was.now)) (leaves.closed tt)
      honest one was
  reopening_leaves old new t stops (Err (unmade.Refused r)) leaves no_end honest one was =
      let ts = tables_left stops.now in
      let rests = left_rests old.cache stops.now was.now in
      let run = leaves.stops ts rests in
      subst (Leaves new.cache) (refused_closing t r stops (no_end r refl))
      (closing_leaves old.cache new.cache t stops (Perhaps (t ∷ ts)) (t ∷ stops.kept) run was
      (leaves.rests ts rests) (λ u there. there)
      (either_among t ts stops.kept was.kept_among) (λ u there. there)
      (closing_kept old.cache new.cache t stops run was))

  -- a table was closed, and since then no other
  pub closed_leaves : (cache : PageCache D A m) (moment : ℕ) (t : Table) → gate_of cache ≡ Shut
      → IsImage (blocks_of cache) t → moment ≤ m.moment (device_of cache)
      → ((c : Blocks) → m.left_since (device_of cache) moment c → IsRefused c ⊎ IsImage c t)
      → (CommitsWhatOpens m.recovery → IsFound cache moment (t ∷ []) (t ∷ []))
      → Leaves cache (closed_since moment t)
  closed_leaves cache moment t shut image begun stops found = record {
    now = (shut, image);
    begun = begun;
    so_far = λ c left. ⊎_elim (λ refused. inl refused) (λ there. this_one [] t c there) (stops c left);
    among = λ u there. there;
    kept_among = λ u there. there;
    kept_before = λ u there. there;
    found = found;
  }

  -- seen from now on
  leaves_from_now : (cache : PageCache D A m) (stops : Stops) → IsHonest cache → OnlyNow cache
      → BroughtNow cache → Leaves cache stops
      → Leaves cache (stops_from_now stops (m.moment (device_of cache)))
  leaves_from_now cache stops honest here brought was = record {
    now = was.now;
    begun = omega arith;
    so_far =
        λ c left. rest_leaves cache (tables_left stops.now) honest (left_rests cache stops.now was.now) c
        (here c left);
    among = λ u there. there;
    kept_among = was.kept_among;
    kept_before = λ u there. there;
    found = λ opens. found_now cache stops.kept brought (was.found opens).now;
  }

  -- ---- a store

  -- what a stop between calls leaves
  pub left_of_store : (store : Store D A m) (s : SessionState) → Represents store s → (c : Blocks)
      → m.may_leave (device_in store) c → MayRemain s.stops.now c
  unfolding Represents
  left_of_store store s represents c stop =
      at_rest_leaves (cache_in store) s.stops.now represents.1 represents.2.now c stop

  pub session_state_is : (store : Store D A m) (s : SessionState) → Represents store s → IsOfStore store s
  unfolding Represents
  session_state_is store s represents = represents.0

  -- and what stops are found to have left
  pub found_of_store : (store : Store D A m) (s : SessionState) → Represents store s
      → CommitsWhatOpens m.recovery → IsFound (cache_in store) s.stops.since s.stops.kept s.stops.kept_so_far
  unfolding Represents
  found_of_store store s represents opens = represents.2.found opens

  -- and what one so far left
  pub left_so_far : (store : Store D A m) (s : SessionState) → Represents store s → (c : Blocks)
      → m.left_since (device_in store) s.stops.since c → IsRefusedOrImageOf s.stops.so_far c
  unfolding Represents
  left_so_far store s represents c stop = represents.2.so_far c stop

  -- and what one so far left once its table was closed, or the closing was refused
  pub left_by_closing : (store : Store D A m) (s : SessionState) (t : Table) (device : D)
      → Represents store s
      → LeavesOnly m.moment m.left_since m.recovery (device_in store) device
      (IsRefusedOrImageOf (t ∷ tables_left s.stops.now))
      → (c : Blocks) → m.left_since device s.stops.since c → IsRefusedOrImageOf (t ∷ s.stops.so_far) c
  unfolding Represents
  left_by_closing store s t device represents only c left =
      ⊎_elim (λ before. or_this s.stops.so_far t c (represents.2.so_far c before))
      (λ here. left_among (t ∷ tables_left s.stops.now) (t ∷ s.stops.so_far) c
      (either_among t (tables_left s.stops.now) s.stops.so_far represents.2.among) here)
      (only.before s.stops.since c represents.2.begun left)

  -- what is left now, or by a closing of the table, is among what was left so far, or by the closing
  pub left_more : (store : Store D A m) (s : SessionState) (t : Table) → Represents store s → (c : Blocks)
      → IsRefusedOrImageOf (t ∷ tables_left s.stops.now) c → IsRefusedOrImageOf (t ∷ s.stops.so_far) c
  unfolding Represents
  left_more store s t represents c here =
      left_among (t ∷ tables_left s.stops.now) (t ∷ s.stops.so_far) c
      (either_among t (tables_left s.stops.now) s.stops.so_far represents.2.among) here

  -- and what it is found to have left
  pub found_by_closing : (store : Store D A m) (s : SessionState) (t : Table) (device : D)
      → Represents store s
      → LeavesOnly m.moment m.left_since m.recovery (device_in store) device
      (IsRefusedOrImageOf (t ∷ tables_left s.stops.now))
      → CommitsWhatOpens m.recovery → (c : Blocks) → m.recovery.found_since device s.stops.since c
      → IsImageOfOne (t ∷ s.stops.kept_so_far) c
  unfolding Represents
  found_by_closing store s t device represents only opens =
      closing_found (cache_in store) device t s.stops only represents.2 opens

  -- the same store, seen from now on
  pub represents_from_now : (store : Store D A m) (s : SessionState)
      → (IsHonest (cache_in store) → OnlyNow (cache_in store))
      → (IsHonest (cache_in store) → BroughtNow (cache_in store)) → Represents store s
      → Represents store (from_now s (m.moment (device_in store)))
  unfolding Represents
  represents_from_now store s here brought represents = (
    record { state = represents.0.state; faults = represents.0.faults },
    represents.1,
    leaves_from_now (cache_in store) s.stops represents.1 (here represents.1) (brought represents.1)
        represents.2,
  )

  -- the same store, whose blocks are an image of the table
  pub represents_on_image : (store : Store D A m) (s : SessionState) (t : Table)
      → (IsHonest (cache_in store) → OnlyNow (cache_in store))
      → (IsHonest (cache_in store) → BroughtNow (cache_in store)) → Represents store s
      → IsImage (blocks_in store) t → Represents store (resting_on s (m.moment (device_in store)) t)
  unfolding Represents
  represents_on_image store s t here brought represents image = (
    record { state = represents.0.state; faults = represents.0.faults },
    represents.1,
    leaves_from_now (cache_in store)
        (record {
          now = Perhaps (t ∷ []);
          since = s.stops.since;
          so_far = t ∷ s.stops.so_far;
          kept = t ∷ s.stops.kept;
          kept_so_far = t ∷ s.stops.kept_so_far;
        }) represents.1 (here represents.1)
        (brought represents.1) (record {
          now = rests_on_image (cache_in store) t image;
          begun = represents.2.begun;
          so_far = λ c left. or_this s.stops.so_far t c (represents.2.so_far c left);
          among = λ u there. contains_one u t s.stops.so_far there;
          kept_among = λ u there. contains_one u t s.stops.kept there;
          kept_before = either_among t s.stops.kept s.stops.kept_so_far represents.2.kept_before;
          found = λ opens. found_more (cache_in store) t s.stops (represents.2.found opens);
        }),
  )
