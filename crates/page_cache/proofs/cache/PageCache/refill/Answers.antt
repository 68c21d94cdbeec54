-- The goals of `PageCache::refill` that are proved by hand.
use Rattle.std.proofs.Common.{inl, inr, ◌≡◌, ◌⊎◌, ◌∙◌, ◌∷◌, ◌<◌, ◌≤◌, ◌||◌, ℕ, List, Some, ap, arith, false, is_some}
use Rattle.std.proofs.Common.{refl, rules, subst, sym, ⊎_elim}
use Rattle.std.proofs.lemmas.Bool.{false≢true}
use Rattle.std.specs.Map.{keys_of}
use Rattle.std.specs.Prelude.{Result, IsErrAnd}
use Rattle.block_device.specs.Device.{IsBlock}
use Rattle.page_file.specs.Fault.{IsDamage, IsOfDevice, faults_after}
use Rattle.page_file.specs.File as below
use Rattle.page_file.specs.declared.fault.Fault.{Fault}
use Rattle.page_file.specs.declared.fault.Fault.TheVariants as fault
use Rattle.page_file.specs.declared.file.PageFile.{PageFile}
use Rattle.page_file.specs.declared.header.Header.{Header}
use Rattle.page_cache.specs.declared.cache.PageCache.{PageCache}
use Rattle.page_cache.specs.Cache.{IsHonest, capacity_of, device_of, held_pages, next_of}
use Rattle.page_cache.specs.Calls.{AsksUntil, asks_changes, changes_and_refuses, counted_by_end, no_call_asks}
use Rattle.page_cache.specs.Calls.{no_call_changes}
use Rattle.page_cache.specs.Frames.{frame_at}
use Rattle.page_cache.specs.Keeps.{KeepsBlocks, SameFrames}
use Rattle.page_cache.specs.PageSteps.{Refills}
use Rattle.page_cache.specs.Uses.{with_room}
use Rattle.page_cache.proofs.Behind.{kept_asks, keeps_in_turn, keeps_same, map_kept, map_through}
use Rattle.page_cache.proofs.Behind.{unchanged}
use Rattle.page_cache.proofs.Lookups.{first-found}
use Rattle.page_cache.proofs.Opened.{opened_refills, refused_refills}
use Rattle.page_cache.proofs.Putting.{given_others_there, given_there, held_after, held_within, held_written}
use Rattle.page_cache.proofs.Putting.{live_there, others_there, sound_there, there}
use Rattle.page_cache.proofs.Results.{at_error, either, no_device, no_success, on_err_all, on_err_map}
use Rattle.page_cache.proofs.Results.{on_ok_map}
use Rattle.page_cache.proofs.Results.{or_none, unset_by_err, untouched_by}
use Rattle.page_cache.proofs.Uses.{not_held, used_absent, uses_refused}
use Rattle.page_cache.proofs.cache.PageCache.refill.Goals as goal
use Rattle.page_cache.proofs.cache.PageCache.refill.Goals.{then-n-lt2-via-then-n-lt2}
use Rattle.page_cache.proofs.cache.PageCache.refill.Goals.{then-n-lt2-via-else-n-lt2+then-n-next_number}

-- after room was made, as many are held as there is room for beside one more
module _ {D A : Type 0} {m : _} (old mid : PageCache D A m) (same : SameFrames old mid)
    (absent : held_pages mid ≡ held_pages old) where
  room_made_for : (now : PageCache D A m) → held_pages now ≡ with_room (capacity_of mid) (held_pages mid)
      → held_pages now ≡ with_room (capacity_of old) (held_pages old)
  room_made_for now is = is ∙ ap (with_room (capacity_of mid)) absent
      ∙ ap (λ k. with_room k (held_pages old)) same.capacity

-- Calls that only made room, of which the last is refused: the page is not filled, and nothing is changed.
gives_up : {D A : Type 0} {m : _} {T : Type 0} {did : List ℕ → List ℕ → Type 0} (old new : PageCache D A m)
    (n : ℕ) (r : Result T Fault) (f : Fault) → IsErrAnd r (λ e. e ≡ f) → KeepsBlocks old new
    → m.faults (device_of new) ≡ faults_after f (m.faults (device_of old))
    → (held_pages new ≡ held_pages old) ⊎ (held_pages new ≡ with_room (capacity_of old) (held_pages old))
    → is_some (frame_at old.frames.entries n) ≡ false
    → 2 ≤ n → n < next_of old → (IsHonest old → IsOfDevice f) → IsOfDevice f ⊎ IsDamage f
    → Refills n did old new r
gives_up old new n r f refused kept faults room absent low within of_device other =
    let map = map_kept old new kept in
    record {
      changes = changes_and_refuses old old new f r refused (no_call_changes old)
          (asks_changes old new (Some f) (kept_asks old new (Some f) kept faults));
      filled = λ h. no_success r f _ refused;
      live = λ h live. ap is_some (map.pages_stay h n) ∙ live;
      others = λ h live k ne. map.pages_stay h k;
      sound = λ was live. map.sound.0 was;
      next = map.next;
      in_memory = record {
        given_others = λ h k ne. map.given_stay h k;
        refused = on_err_all r map;
        grows = search rules;
        looks = kept.looks;
        holds = no_success r f _ refused;
        uses = uses_refused old new n f r refused room;
        touched = kept.touched ∙ sym (untouched_by old.touched r f refused);
      };
      opens = no_success r f _ refused;
      held = λ was is. absurd (false≢true (sym absent ∙ is));
      outside = λ out. absurd (⊎_elim (λ (less : n < 2). omega (arith, less, low))
          (λ (more : next_of old ≤ n). omega (arith, more, within)) out);
      faults = λ h _ _. at_error r f IsOfDevice refused (of_device h);
      other_faults = at_error r f (λ e. IsOfDevice e ⊎ IsDamage e) refused other;
    }

-- the page is held
pub returns-then-promote : goal.returns-then-promote
returns-then-promote g c =
    opened_refills c.args.self.now c.open_gate.new.self c.change_held.new.self _ c.in_ok-open_gate.ensures _
    c.args.n (omega (arith, c.if-n-lt2.false))
    (omega (arith, c.if-n-next_number.false, c.next_number.ensures)) (
    let old = c.open_gate.new.self in let mid = c.promote.new.self in let new = c.change_held.new.self in
    let n = c.args.n in let file = c.change_held.ensures.file in
    let kept = keeps_same old mid c.promote.ensures.same in
    let was = first-found n mid.frames.entries (c.promote.ensures.first c.if-promote.true) in
    let did = c.change_held.ensures.frames was.0 was.2 in let after = did.0.bytes.value in
    let behind = held_written old mid new n was.0 did.0 kept file was.2 did.1 did.4 in
    let within = held_within old mid new n was.0 did.0 kept file was.2 in
    record {
      changes = search (rules, counted_by_end);
      filled = λ h. (
        was.0.bytes.value,
        after,
        given_there old mid new n after kept file within h (behind h),
        λ live. there old mid new n after did.2 kept file h live (behind h),
        did.3,
      );
      live = λ h live. live_there old mid new n after did.2 kept file h live (behind h);
      others = λ h live. others_there old mid new n after did.2 kept file h live (behind h);
      sound = λ map live.
          sound_there old mid new n after did.2 kept file map live
          (λ h. subst (λ (f : PageFile _ _). below.IsHonest f) (sym file) (kept.gate.honest.0 h))
          (behind map.honest);
      next = search rules;
      opens = search rules;
      in_memory = record {
        given_others = λ h. given_others_there old mid new n after kept file within h (behind h);
        refused = tt;
        grows = search rules;
        looks = search rules;
        holds = held_after old mid new n was.0 did.0 kept file was.2 did.4;
        uses = search rules;
        touched = search rules;
      };
      held = λ was is. refl;
      outside = search rules;
      faults = λ h low below. tt;
      other_faults = tt;
    })

-- its number is of no page given out
pub returns-then-n-lt2 : goal.returns-then-n-lt2
returns-then-n-lt2 g c =
    let old = c.args.self.now in let n = c.args.n in let f = fault.Damaged n in
    let same = no_call_asks old in
    let asks : AsksUntil old old (Some f) = record {
      gate = same.gate;
      map = same.map;
      capacity = refl;
      looks = same.looks;
      touched = refl;
      faults = refl;
    } in
    let out : (n < 2) ⊎ (next_of old ≤ n) = elim c.then-n-lt2.branch [
      | then-n-lt2-via-then-n-lt2 w ↦ inl (omega (arith, w.if-n-lt2.true))
      | then-n-lt2-via-else-n-lt2+then-n-next_number w ↦ inr (omega (
        arith,
        w.if-n-next_number.true,
        w.next_number.ensures,
      ))
    ] in
    record {
      changes = asks_changes old old (Some f) asks;
      filled = λ h. tt;
      live = λ h live. live;
      others = λ h live k ne. refl;
      sound = λ was live. was;
      next = refl;
      in_memory = record {
        given_others = λ h k ne. refl;
        refused = same.map;
        grows = search rules;
        looks = refl;
        holds = tt;
        uses = record { used = tt; refused = inl refl };
        touched = sym (or_none old.touched);
      };
      opens = tt;
      held = λ was is. absurd (let w = old.within n is in ⊎_elim (λ (less : n < 2). omega (arith, less, w.0))
          (λ (more : next_of old ≤ n). omega (arith, more, w.1)) out);
      outside = λ _. (refl, unchanged old old refl (λ k. refl) refl refl);
      faults = λ h low within. absurd (⊎_elim (λ (less : n < 2). omega (arith, less, low))
          (λ (more : next_of old ≤ n). omega (arith, more, within)) out);
      other_faults = inr (n, refl);
    }

-- the gate is refused
pub returns-in_err-open_gate : goal.returns-in_err-open_gate
returns-in_err-open_gate g c =
    refused_refills c.args.self.now c.open_gate.new.self c.in_err-open_gate.field-0.0 c.from_residual.result
    c.from_residual.ensures.1 _ refl c.in_err-open_gate.ensures c.args.n (omega (arith, c.if-n-lt2.false))
    (omega (arith, c.if-n-next_number.false, c.next_number.ensures))

-- no room is made for it
pub returns-in_err-make_room : goal.returns-in_err-make_room
returns-in_err-make_room g c =
    opened_refills c.args.self.now c.open_gate.new.self c.make_room.new.self _ c.in_ok-open_gate.ensures c.from_residual-in_err-make_room.result
    c.args.n (omega (arith, c.if-n-lt2.false))
    (omega (arith, c.if-n-next_number.false, c.next_number.ensures)) (
    let old = c.open_gate.new.self in let mid = c.promote.new.self in let new = c.make_room.new.self in
    let r = c.from_residual-in_err-make_room.result in let f = c.in_err-make_room.field-0.0 in
    let failed = c.in_err-make_room.ensures in
    let honest : IsHonest old → IsHonest mid =
    λ h. subst (λ (x : PageFile _ _). below.IsHonest x) (sym c.promote.ensures.same.file) h in
    gives_up old new c.args.n r f c.from_residual-in_err-make_room.ensures.1
    (keeps_in_turn old mid new (keeps_same old mid c.promote.ensures.same) c.make_room.ensures.kept)
    (failed.cause.refused
    ∙ ap (λ (x : PageFile _ _). faults_after f (g.D.BlockDevice.faults (below.device_of x)))
    c.promote.ensures.same.file)
    (inl (failed.refused ∙ c.promote.ensures.absent c.if-promote.false))
    (sym c.promote.ensures.answer ∙ c.if-promote.false)
    (omega (arith, c.if-n-lt2.false))
    (omega (arith, c.if-n-next_number.false, c.next_number.ensures, c.in_ok-open_gate.ensures.map.next))
    (λ h. failed.faults (honest h)) failed.other_faults)

-- no bytes are had for it
pub returns-in_err-bytes : goal.returns-in_err-bytes
returns-in_err-bytes g c =
    opened_refills c.args.self.now c.open_gate.new.self c.blank.new.self _ c.in_ok-open_gate.ensures c.from_residual-in_err-bytes.result
    c.args.n (omega (arith, c.if-n-lt2.false))
    (omega (arith, c.if-n-next_number.false, c.next_number.ensures)) (
    let old = c.open_gate.new.self in let mid = c.promote.new.self in let new = c.blank.new.self in
    let r = c.from_residual-in_err-bytes.result in let f = c.in_err-bytes.field-0.0 in
    let memory = c.in_err-bytes.ensures.memory in
    let faults =
    ap (λ (x : PageFile _ _). g.D.BlockDevice.faults (below.device_of x)) c.blank.ensures.same.file
    ∙ c.in_ok-make_room.ensures.cause.ok
    ∙ ap (λ (x : PageFile _ _). g.D.BlockDevice.faults (below.device_of x)) c.promote.ensures.same.file in
    gives_up old new c.args.n r f c.from_residual-in_err-bytes.ensures.1
    (keeps_in_turn old c.make_room.new.self new
    (keeps_in_turn old mid c.make_room.new.self (keeps_same old mid c.promote.ensures.same)
    c.make_room.ensures.kept)
    (keeps_same c.make_room.new.self new c.blank.ensures.same))
    (faults ∙ sym (ap (λ x. faults_after x (g.D.BlockDevice.faults (device_of old))) memory))
    (inr (room_made_for old mid c.promote.ensures.same (c.promote.ensures.absent c.if-promote.false) new
    (ap (λ d. keys_of d.entries) c.blank.ensures.frames ∙ c.in_ok-make_room.ensures.held)))
    (sym c.promote.ensures.answer ∙ c.if-promote.false)
    (omega (arith, c.if-n-lt2.false))
    (omega (arith, c.if-n-next_number.false, c.next_number.ensures, c.in_ok-open_gate.ensures.map.next))
    (λ h. inl memory) (inl (inl memory)))

-- it comes in, or there is no memory to hold it
pub returns : goal.returns
returns g c =
    opened_refills c.args.self.now c.open_gate.new.self _ _ c.in_ok-open_gate.ensures c.hold-held.result
    c.args.n (omega (arith, c.if-n-lt2.false))
    (omega (arith, c.if-n-next_number.false, c.next_number.ensures)) (
    let old = c.open_gate.new.self in let mid = c.blank.new.self in let new = c.hold-held.new.self in
    let n = c.args.n in let r = c.hold-held.result in let after = c.fill.new.arg2 in
    let held = c.hold-held.ensures in let file = held.file in
    let kept =
    keeps_in_turn old c.make_room.new.self mid
    (keeps_in_turn old c.promote.new.self c.make_room.new.self
    (keeps_same old c.promote.new.self c.promote.ensures.same) c.make_room.ensures.kept)
    (keeps_same c.make_room.new.self mid c.blank.ensures.same) in
    let within : (2 ≤ n) × (n < old.file.header.next) = (
      omega (arith, c.if-n-lt2.false),
      omega (arith, c.if-n-next_number.false, c.next_number.ensures, c.in_ok-open_gate.ensures.map.next),
    ) in
    let block = subst (λ b. IsBlock b) c.deref.ensures c.see_block.ensures in
    let written = λ (h : IsHonest old). held.written (kept.gate.honest.0 h) refl in
    let same_faults =
    ap (λ (x : PageFile _ _). g.D.BlockDevice.faults (below.device_of x)) (file ∙ c.blank.ensures.same.file)
    ∙ c.in_ok-make_room.ensures.cause.ok
    ∙ ap (λ (x : PageFile _ _). g.D.BlockDevice.faults (below.device_of x)) c.promote.ensures.same.file in
    let was = not_held (frame_at old.frames.entries n) (sym c.promote.ensures.answer ∙ c.if-promote.false) in
    let room : held_pages mid ≡ with_room old.frames.cap (held_pages old) =
    room_made_for old c.promote.new.self c.promote.ensures.same
    (c.promote.ensures.absent c.if-promote.false) mid
    (ap (λ d. keys_of d.entries) c.blank.ensures.frames ∙ c.in_ok-make_room.ensures.held) in
    let gate = subst (λ (x : PageFile _ _). below.KeepsGate old.file x) (sym file) kept.gate in
    let absent = ap (λ f. frame_at f.entries n) c.blank.ensures.frames
    ∙ c.make_room.ensures.absent n (c.promote.ensures.same.frames n ∙ was) in
    record {
      changes = record {
        gate = λ opened. gate;
        honest = gate.honest;
        version = gate.version;
        next = omega (
          arith,
          ap (λ (x : PageFile _ _). below.next_of x) file,
          ap (λ (x : Header). x.next) kept.header,
        );
        capacity = held.capacity ∙ kept.capacity;
        looks = omega (arith, held.looks, kept.looks);
        touched = λ set. ap (λ t. t || c.is_ok.result) (held.touched ∙ kept.touched ∙ set);
        untouched = λ none. unset_by_err new.touched c.is_ok.result r c.is_ok.ensures.value none
            (on_err_map r held.refused (λ same. map_through old mid _ kept same.file same.frames));
        faults = no_device _ _ r same_faults held.memory;
      };
      filled = λ h.
          on_ok_map r (written h)
          (λ behind. (
            c.deref_mut.result.now,
            after,
            given_there old mid new n after kept file within h behind,
            λ live. there old mid new n after block kept file h live behind,
            record { shown = _; shows = refl; left = _; met = c.fill.ensures; leaves = refl },
          ));
      live = λ h live.
          either r (written h) held.refused (live_there old mid new n after block kept file h live)
          (λ (same : SameFrames mid new). ap is_some
          ((map_kept old new (keeps_in_turn old mid new kept (keeps_same mid new same))).pages_stay h n)
          ∙ live);
      others = λ h live.
          either r (written h) held.refused (others_there old mid new n after block kept file h live)
          (λ (same : SameFrames mid new). λ k ne.
          (map_kept old new (keeps_in_turn old mid new kept (keeps_same mid new same))).pages_stay h k);
      sound = λ map live.
          either r (written map.honest) held.refused
          (sound_there old mid _ n after block kept file map live
          (λ h. subst (λ (f : PageFile _ _). below.IsHonest f) (sym file) (kept.gate.honest.0 h)))
          (λ (same : SameFrames mid new). (map_through old mid _ kept same.file same.frames).sound.0 map);
      next = search rules;
      opens = search rules;
      in_memory = record {
        given_others = λ h.
            either r (written h) held.refused (given_others_there old mid new n after kept file within h)
            (λ (same : SameFrames mid new). λ k ne.
            (map_kept old new (keeps_in_turn old mid new kept (keeps_same mid new same))).given_stay h k);
        refused = on_err_map r held.refused (λ same. map_through old mid _ kept same.file same.frames);
        grows = search rules;
        looks = held.looks ∙ kept.looks;
        holds = search rules;
        uses = record {
          used = on_ok_map r (held.held absent)
              (λ is. is ∙ ap (λ l. n ∷ l) room ∙ used_absent old.frames.cap n old.frames.entries
              (omega (
                arith,
                c.in_ok-make_room.ensures.room,
                c.make_room.ensures.kept.capacity,
                c.promote.ensures.same.capacity,
              )) was);
          refused = on_err_map r held.refused_held (λ same. inr (same ∙ room));
        };
        touched = search rules;
      };
      held = λ was is. absurd (false≢true (sym (sym c.promote.ensures.answer ∙ c.if-promote.false) ∙ is));
      outside = search rules;
      faults = search rules;
      other_faults = search rules;
    })
