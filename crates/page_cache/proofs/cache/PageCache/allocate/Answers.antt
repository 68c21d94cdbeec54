-- The goals of `PageCache::allocate` that are proved by hand.
use Rattle.std.proofs.Common.{inl, inr, ◌≡◌, ◌∙◌, ℕ, ◌≤◌, ◌<◌, length, Option, Some, None, is_some, IsSome}
use Rattle.std.proofs.Common.{◌||◌, ap, eqb, rules, not, refl, sym, subst, arith, ⊎_elim}
use Rattle.block_bytes.specs.Numbers.{zeros}
use Rattle.block_device.specs.Device.{Blocks, block_at}
use Rattle.page_file.specs.Fault.{IsOfDevice}
use Rattle.page_file.specs.File as below
use Rattle.page_file.specs.Laws.{the_gate_is_kept_in_turn}
use Rattle.page_file.specs.Pages.{HasFreeChain, HasGiven, MayHaveGiven, SameBut, TakesFirst}
use Rattle.page_file.specs.Pages.{free_page_link, free_pages_of}
use Rattle.page_file.specs.Pages.{given_pages, next_given, page_of}
use Rattle.page_file.specs.Reused.{all_live, chain_refused, chain_stays, chain_unchanged, given_is_zeros}
use Rattle.page_file.specs.Reused.{given_refused, given_stays, given_unchanged, none_before, others_refused}
use Rattle.page_file.specs.Reused.{others_stay, pages_unchanged, sound_link, takes_first}
use Rattle.page_file.specs.declared.fault.Fault.TheVariants as fault
use Rattle.page_file.specs.declared.file.PageFile.{PageFile}
use Rattle.page_file.specs.declared.header.Header.{Header}
use Rattle.page_cache.specs.Cache.{IsHonest, KeepsMap, blocks_behind, blocks_of}
use Rattle.page_cache.specs.Calls.{asks_changes, changes_and_refuses, counted_by_end, fault_in}
use Rattle.page_cache.specs.Calls.{faults_behind, no_call_changes}
use Rattle.page_cache.specs.Frames.{changed_pages, frame_at, laid_over, newer_bytes}
use Rattle.page_cache.specs.Keeps.{KeepsBlocks}
use Rattle.page_cache.specs.Laid.{length-laid}
use Rattle.page_cache.specs.Laws.{the_map_is_kept_in_turn}
use Rattle.page_cache.specs.declared.cache.PageCache.{PageCache}
use Rattle.page_cache.specs.declared.frame.Frame.{Frame}
use Rattle.page_cache.proofs.Behind.{kept_asks, map_from, map_kept}
use Rattle.page_cache.proofs.Kept.{kept_below}
use Rattle.page_cache.proofs.Results.{either, if_err_map, if_ok_both, none_lost, on_err_and, on_err_given}
use Rattle.page_cache.proofs.Results.{on_err_map}
use Rattle.page_cache.proofs.Results.{stays_unless_lost}
use Rattle.page_cache.proofs.Opened.{gives_none, no_number, opened_allocates, refused_allocates}
use Rattle.page_cache.proofs.Reused.{either_given, first_same, gives_behind, may_behind}
use Rattle.page_cache.proofs.cache.PageCache.allocate.Goals as goal

-- no page is held that was not given out
none_next : {A : Type 0} (frames : ℕ → Option (Frame A)) (next : ℕ)
    → ((n : ℕ) → IsSome (frames n) → (2 ≤ n) × (n < next)) → frames next ≡ None
none_next frames next within = case (frames next) refl
  where
    case : (o : Option _) → frames next ≡ o → o ≡ None
    case None e = refl
    case (Some f) e = absurd (let w = within next (ap is_some e) in omega (arith, w.1))

-- the cache before, the one of which the first free page was let go, and the file in which a page was given
-- out
module _ {D A : Type 0} {m : _} (old mid : PageCache D A m) (file : PageFile D m)
    (keeps : KeepsBlocks old mid) (first : ℕ) (is : first ≡ mid.file.header.first)
    (gone : frame_at mid.frames.entries first ≡ None) where
  at_first : frame_at mid.frames.entries mid.file.header.first ≡ None
  at_first = subst (λ (n : ℕ). frame_at mid.frames.entries n ≡ None) is gone

  at_next : frame_at mid.frames.entries mid.file.header.next ≡ None
  at_next = none_next (frame_at mid.frames.entries) mid.file.header.next mid.within

  pub at_given : frame_at mid.frames.entries (next_given mid.file.header) ≡ None
  at_given = either_given (λ n. frame_at mid.frames.entries n ≡ None) mid.file.header at_next at_first

  abbrev pub after : Blocks
  after = laid_over (changed_pages mid.frames.entries) (below.blocks_of file)

  pub room : IsHonest old → old.file.header.next ≤ length (blocks_behind old)
  room h = let size = length-laid (changed_pages old.frames.entries) (blocks_of old) in
      omega (arith, size, old.file.room h)

  pub gives : IsHonest old → HasGiven (blocks_of mid) (below.blocks_of file) mid.file.header file.header
      → HasGiven (blocks_behind old) after old.file.header file.header
  gives h given = subst (λ (x : Header). HasGiven (blocks_behind old) after x file.header) keeps.header
      (subst (λ (b : Blocks). HasGiven b after mid.file.header file.header) (keeps.blocks h)
      (gives_behind (changed_pages mid.frames.entries) (blocks_of mid) mid.file.header mid.file.sound
      (mid.file.room (keeps.gate.honest.0 h)) (below.blocks_of file) file.header
      (ap newer_bytes at_first) (ap newer_bytes at_next) given))

  pub may : IsHonest old → MayHaveGiven (blocks_of mid) (below.blocks_of file) mid.file.header file.header
      → MayHaveGiven (blocks_behind old) after old.file.header file.header
  may h given = subst (λ (x : Header). MayHaveGiven (blocks_behind old) after x file.header) keeps.header
      (subst (λ (b : Blocks). MayHaveGiven b after mid.file.header file.header) (keeps.blocks h)
      (may_behind (changed_pages mid.frames.entries) (blocks_of mid) mid.file.header mid.file.sound
      (mid.file.room (keeps.gate.honest.0 h)) (below.blocks_of file) file.header
      (ap newer_bytes at_first) (ap newer_bytes at_next) given))

  pub which : (n : ℕ) → n ≡ next_given mid.file.header → n ≡ next_given old.file.header
  which n e = e ∙ ap (λ (x : Header). next_given x) keeps.header

  -- the block of the first free page is as it is behind what is held
  pub same_link : IsHonest old
      → free_page_link mid.file.header.count mid.file.header.next
      (block_at mid.file.header.first (blocks_of mid)) ≡ free_page_link old.file.header.count
      old.file.header.next (block_at old.file.header.first (blocks_behind old))
  same_link h =
      ap (free_page_link mid.file.header.count mid.file.header.next)
      (sym (first_same (changed_pages mid.frames.entries) (blocks_of mid) mid.file.header mid.file.sound
      (mid.file.room (keeps.gate.honest.0 h)) (ap newer_bytes at_first)))
      ∙ ap (λ (b : Blocks). free_page_link mid.file.header.count mid.file.header.next
      (block_at mid.file.header.first b)) (keeps.blocks h)
      ∙ ap (λ (x : Header). free_page_link x.count x.next (block_at x.first (blocks_behind old))) keeps.header

-- a refusal that leaves as many pages free leaves the map
module _ {D A : Type 0} {m : _} (old mid new : PageCache D A m) (keeps : KeepsBlocks old mid) (first : ℕ)
    (is : first ≡ mid.file.header.first) (gone : frame_at mid.frames.entries first ≡ None)
    (behind : blocks_behind new ≡ after old mid new.file keeps first is gone) where
  map_stays : new.file.header.next ≡ mid.file.header.next → below.KeepsGate mid.file new.file
      → (IsHonest mid → MayHaveGiven (blocks_of mid) (blocks_of new) mid.file.header new.file.header)
      → new.file.header.count ≡ old.file.header.count → KeepsMap old new
  map_stays next gate gave count =
      let X = blocks_behind old in let Y = after old mid new.file keeps first is gone in
      let roomy : IsHonest old → old.file.header.next ≤ length X =
      room old mid new.file keeps first is gone in
      let may_of : IsHonest old → MayHaveGiven X Y old.file.header new.file.header =
      λ h. may old mid new.file keeps first is gone h (gave (keeps.gate.honest.0 h)) in
      record {
        next = next ∙ ap (λ (x : Header). x.next) keeps.header;
        free_count = count;
        version = λ h. gate.version (keeps.gate.honest.0 h) ∙ keeps.gate.version h;
        pages_stay = λ h n. ap (λ (b : Blocks). page_of b new.file.header n) behind
            ∙ pages_unchanged X Y old.file.header new.file.header old.file.sound (roomy h) (may_of h) count n;
        given_stay = λ h n. ap (λ (b : Blocks). given_pages b new.file.header.next n) behind
            ∙ given_unchanged X Y old.file.header new.file.header old.file.sound (roomy h) (may_of h) count n;
        sound = (
          λ p. record {
            honest = gate.honest.0 (keeps.gate.honest.0 p.honest);
            free = subst (λ (b : Blocks). HasFreeChain b new.file.header) (sym behind)
                (chain_refused X Y old.file.header new.file.header old.file.sound (roomy p.honest) p.free
                (may_of p.honest));
          },
          λ p. let h = keeps.gate.honest.1 (gate.honest.1 p.honest) in record {
            honest = h;
            free = chain_unchanged X Y old.file.header new.file.header old.file.sound (roomy h) (may_of h)
                count (subst (λ (b : Blocks). HasFreeChain b new.file.header) behind p.free);
          },
        );
      }

pub invariant_of-self : goal.invariant_of-self
invariant_of-self g c =
    let mid = c.release.new.self in let new = c.allocate-allocated.new.self in
    let first = c.first_free-first.ensures
    ∙ ap (λ (x : Header). x.first) (sym c.release.ensures.kept.header) in
    let kept =
    kept_below mid.file new (frame_at mid.frames.entries) c.allocate-allocated.ensures.next.0
    c.allocate-allocated.ensures.gate.gate c.allocate-allocated.ensures.gate.honest.1
    (λ h n f is clean.
    let apart : n ≡ next_given mid.file.header
    → ⊥ = λ e. let none =
    at_given c.open_gate.new.self mid new c.release.ensures.kept c.first_free-first.result first
    c.in_ok-release.ensures.gone in let some = sym (ap (frame_at mid.frames.entries) e) ∙ is in
    absurd (let bad = sym none ∙ some in cc) in
    either c.allocate-allocated.result (c.allocate-allocated.ensures.gives h)
    (c.allocate-allocated.ensures.may_give h)
    (λ gives. given_stays (blocks_of mid) (below.blocks_of new) mid.file.header new.header mid.file.sound
    (mid.file.room h) gives n apart)
    (λ may. given_refused (blocks_of mid) (below.blocks_of new) mid.file.header new.header mid.file.sound
    (mid.file.room h) may n apart))
    (record { within = mid.within; true_to = mid.true_to; behind_the_gate = mid.behind_the_gate }) in
    record {
      within = kept.within;
      true_to = kept.true_to;
      behind_the_gate = kept.behind_the_gate;
      counted = mid.counted;
    }

-- the gate is refused
pub returns-in_err-open_gate : goal.returns-in_err-open_gate
returns-in_err-open_gate g c =
    refused_allocates c.args.self.now c.open_gate.new.self c.in_err-open_gate.field-0.0 c.from_residual.result
    c.from_residual.ensures.1 _ refl c.in_err-open_gate.ensures

-- the first free page is not let go
pub returns-in_err-release : goal.returns-in_err-release
returns-in_err-release g c =
    let old = c.open_gate.new.self in let new = c.release.new.self in
    let r = c.from_residual-in_err-release.result in let f = c.in_err-release.field-0.0 in
    let refused = c.from_residual-in_err-release.ensures.1 in let release = c.in_err-release.ensures in
    opened_allocates c.args.self.now old new _ c.in_ok-open_gate.ensures r
    (λ none. no_number old new f r refused release.other_faults none)
    (gives_none old new f r refused release.other_faults
    (changes_and_refuses old old new f r refused (no_call_changes old)
    (asks_changes old new (Some f) (kept_asks old new (Some f) release.kept release.cause.refused)))
    (map_kept old new release.kept) release.kept.touched release.kept.looks
    (c.first_free-first.result, release.others) release.faults)

pub returns : goal.returns
returns g c =
    let before = c.args.self.now in let start = c.in_ok-open_gate.ensures in
    let old = c.open_gate.new.self in let mid = c.release.new.self in let new = c.allocate-allocated.new.self in
    let r = c.allocate-allocated.result in let did = c.allocate-allocated.ensures in
    let k = c.release.ensures.kept in let at = c.first_free-first.result in
    let first = c.first_free-first.ensures ∙ ap (λ (x : Header). x.first) (sym k.header) in
    let gone = c.in_ok-release.ensures.gone in
    let X = blocks_behind old in let Y = after old mid new k at first gone in
    let was = old.file.header in let sound = old.file.sound in let honest = k.gate.honest.0 in
    let counts = ap (λ (x : Header). x.count) k.header in let left = c.free_count-free.result in
    let roomy = λ (h : IsHonest old). room old mid new k at first gone h in
    let gave = λ (h : IsHonest old). gives old mid new k at first gone h in
    let may_have = λ (h : IsHonest old). may old mid new k at first gone h in
    let gate = the_gate_is_kept_in_turn old.file mid.file new k.gate did.gate in
    opened_allocates before old _ _ start r
    (λ is n low small. all_live (blocks_behind before) before.file.header
    (sym (ap (λ (x : Header). x.count) start.header) ∙ sym counts ∙ (did.full is).0.1) n low
    (omega (arith, small, (did.full is).0.0, ap (λ (x : Header). x.next) k.header, start.map.next)))
    (record {
      changes = record {
        gate = λ opened. gate;
        honest = gate.honest;
        version = gate.version;
        next = omega (arith, did.next.0, ap (λ (x : Header). x.next) k.header);
        capacity = k.capacity;
        looks = omega (arith, k.looks);
        touched = λ set.
            ap (λ t. t || (c.is_ok.result || not (eqb c.free_count.result left))) (k.touched ∙ set);
        untouched = λ none.
            none_lost mid.touched c.is_ok.result c.free_count.result left r c.is_ok.ensures.value none
            (on_err_given r did.refused_next did.may_give (λ next may. λ same.
            map_stays old mid _ k at first gone refl next did.gate may
            (sym c.free_count.ensures ∙ same ∙ c.free_count-free.ensures ∙ counts)));
        faults = counted_by_end _ _ r did.cause
            ∙ ap (faults_behind (fault_in r)) c.in_ok-release.ensures.cause.ok;
      };
      fresh = λ map. let h = map.honest in
          if_ok_both r did.which (did.gives (honest h))
          (λ n is given. subst
          (λ (i : ℕ). (page_of X was i ≡ None) × (page_of Y new.header i ≡ Some zeros)
          × SameBut i (page_of X was) (page_of Y new.header))
          (sym (which old mid new k at first gone n is)) (
            none_before X Y was new.header sound (roomy h) map.free,
            given_is_zeros X Y was new.header sound (roomy h) map.free (gave h given),
            others_stay X Y was new.header sound (roomy h) map.free (gave h given),
          ));
      taken = λ map. let h = map.honest in
          if_ok_both r did.which (did.gives (honest h))
          (λ n is given. subst
          (λ (i : ℕ).
          TakesFirst i (free_pages_of X was) was.next (free_pages_of Y new.header) new.header.next)
          (sym (which old mid new k at first gone n is))
          (takes_first X Y was new.header sound (roomy h) map.free (gave h given)));
      given_others = λ h.
          if_ok_both r did.which (did.gives (honest h))
          (λ n is given. subst
          (λ (i : ℕ). SameBut i (given_pages X was.next) (given_pages Y new.header.next))
          (sym (which old mid new k at first gone n is))
          (given_stays X Y was new.header sound (roomy h) (gave h given)));
      given_refused = λ h.
          on_err_map r (did.may_give (honest h))
          (λ given. (next_given was, given_refused X Y was new.header sound (roomy h) (may_have h given)));
      refused = λ map. let h = map.honest in
          on_err_map r (did.may_give (honest h))
          (λ given. (
            next_given was,
            none_before X Y was new.header sound (roomy h) map.free,
            others_refused X Y was new.header sound (roomy h) map.free (may_have h given),
          ));
      kept = on_err_and r did.refused_next did.may_give
          (stays_unless_lost mid.touched c.is_ok.result c.free_count.result left r c.is_ok.ensures.value)
          (λ next may stays. λ count. (
            map_stays old mid _ k at first gone refl next did.gate may count,
            stays (c.free_count.ensures ∙ count ∙ sym counts ∙ sym c.free_count-free.ensures) ∙ k.touched,
          ));
      touched = search rules;
      opens = search rules;
      holds = (at, c.release.ensures.others);
      sound = λ map. let h = map.honest in record {
        honest = did.gate.honest.0 (honest h);
        free = either r (did.gives (honest h)) (did.may_give (honest h))
            (λ given. chain_stays X Y was new.header sound (roomy h) map.free (gave h given))
            (λ given. chain_refused X Y was new.header sound (roomy h) map.free (may_have h given));
      };
      number = did.number;
      next = (
        omega (arith, did.next.0, ap (λ (x : Header). x.next) k.header),
        omega (arith, did.next.1, ap (λ (x : Header). x.next) k.header),
      );
      looks = k.looks;
      grows = search rules;
      full = λ is. (did.full is).1;
      all_live = λ is n low below.
          all_live X was (sym counts ∙ (did.full is).0.1) n low
          (omega (arith, below, (did.full is).0.0, ap (λ (x : Header). x.next) k.header));
      faults = λ map. let h = map.honest in
          if_err_map r (did.damaged (honest h))
          (λ f is. ⊎_elim
          (λ (device : IsOfDevice f). inl device)
          (λ rest. ⊎_elim
          (λ (none : f ≡ fault.NoPages). inr none)
          (λ (broken : below.IsBroken mid.file new f).
          let some : 0 < was.count = subst (λ (x : Header). 0 < x.count) k.header broken.some in
          let link = sound_link X was map.free some in
          let none = sym (same_link old mid new k at first gone h) ∙ broken.no_link in
          absurd (let bad = sym none ∙ link in cc))
          rest)
          is);
      damaged = λ h.
          if_err_map r (did.damaged (honest h))
          (λ f is. ⊎_elim
          (λ (device : IsOfDevice f). inl device)
          (λ rest. ⊎_elim
          (λ (none : f ≡ fault.NoPages). inr (inl none))
          (λ (broken : below.IsBroken mid.file new f). inr (inr (record {
            is = broken.is ∙ ap (λ (x : Header). fault.Damaged x.first) k.header;
            some = subst (λ (x : Header). 0 < x.count) k.header broken.some;
            no_link = sym (same_link old mid new k at first gone h) ∙ broken.no_link;
            map = the_map_is_kept_in_turn old mid _ honest (map_kept old mid k)
                (map_from mid _ broken.header did.gate.honest
                (λ h2. ap (laid_over (changed_pages mid.frames.entries)) broken.blocks));
          })))
          rest)
          is);
      other_faults = did.other_faults;
    })
