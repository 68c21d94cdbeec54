-- The goals of `PageCache::free_pages` that are proved by hand.
use Rattle.std.proofs.Common.{inl, inr, ◌∙◌, ap, arith, subst, sym, ⊎_elim}
use Rattle.block_device.specs.Device.{Blocks}
use Rattle.page_file.specs.Fault.{IsOfDevice}
use Rattle.page_file.specs.Pages as below
use Rattle.page_file.specs.declared.header.Header.{Header}
use Rattle.page_cache.specs.Cache.{blocks_behind}
use Rattle.page_file.specs.Laws.{the_gate_is_kept_in_turn}
use Rattle.page_cache.specs.Calls.{counted_by_end, fault_in, faults_behind}
use Rattle.page_cache.specs.Frames.{frame_at}
use Rattle.page_cache.specs.Laws.{the_map_is_kept_in_turn}
use Rattle.page_cache.proofs.Behind.{behind_none, free_below, free_kept, map_below, map_by_file, map_kept}
use Rattle.page_cache.proofs.Results.{if_err_map, if_ok_map, on_ok_map}
use Rattle.page_cache.proofs.Kept.{kept_clean}
use Rattle.page_cache.proofs.cache.PageCache.free_pages.Goals as goal

pub returns-clause-asks : goal.returns-clause-asks
returns-clause-asks g c =
    let none = c.in_ok-write_all.ensures.clean in record {
      gate = the_gate_is_kept_in_turn c.args.self.now.file c.write_all.new.self.file c.free_pages.new.self
          c.write_all.ensures.kept.gate c.free_pages.ensures.gate;
      map = the_map_is_kept_in_turn c.args.self.now c.write_all.new.self _
          c.write_all.ensures.kept.gate.honest.0
          (map_kept c.args.self.now c.write_all.new.self c.write_all.ensures.kept)
          (map_by_file c.write_all.new.self _ none none c.free_pages.ensures.map);
      capacity = c.write_all.ensures.kept.capacity;
      looks = omega (arith, c.write_all.ensures.kept.looks);
      touched = c.write_all.ensures.kept.touched;
      faults = counted_by_end _ _ c.free_pages.result c.free_pages.ensures.cause
          ∙ ap (faults_behind (fault_in c.free_pages.result)) c.in_ok-write_all.ensures.cause.ok;
    }

pub returns-clause-pages : goal.returns-clause-pages
returns-clause-pages g c = λ h.
    let mid = c.write_all.new.self in let keeps = c.write_all.ensures.kept in
    if_ok_map c.free_pages.result (c.free_pages.ensures.pages (keeps.gate.honest.0 h))
    (λ found is. is ∙ free_below mid c.in_ok-write_all.ensures.clean
    ∙ free_kept c.args.self.now mid keeps h)

pub returns-clause-sound : goal.returns-clause-sound
returns-clause-sound g c = λ h.
    let mid = c.write_all.new.self in let keeps = c.write_all.ensures.kept in
    on_ok_map c.free_pages.result (c.free_pages.ensures.sound (keeps.gate.honest.0 h))
    (λ map. (map_kept c.args.self.now mid keeps).sound.1
    ((map_below mid c.in_ok-write_all.ensures.clean).1 map))

pub returns-clause-faults : goal.returns-clause-faults
returns-clause-faults g c = λ map.
    let mid = c.write_all.new.self in
    c.free_pages.ensures.faults
    ((map_below mid c.in_ok-write_all.ensures.clean).0
    ((map_kept c.args.self.now mid c.write_all.ensures.kept).sound.0 map))

pub invariant_of-self : goal.invariant_of-self
invariant_of-self g c =
    let mid = c.write_all.new.self in
    let kept =
    kept_clean mid.file c.free_pages.new.self (frame_at mid.frames.entries) c.free_pages.ensures.map.next
    c.free_pages.ensures.gate.honest.1 c.free_pages.ensures.map.given_stay c.in_ok-write_all.ensures.clean
    (record { within = mid.within; true_to = mid.true_to; behind_the_gate = mid.behind_the_gate }) in
    record {
      within = kept.within;
      true_to = kept.true_to;
      behind_the_gate = kept.behind_the_gate;
      counted = mid.counted;
    }

pub returns-clause-damaged : goal.returns-clause-damaged
returns-clause-damaged g c = λ h.
    let old = c.args.self.now in let mid = c.write_all.new.self in let keeps = c.write_all.ensures.kept in
    let blocks = sym (behind_none mid c.in_ok-write_all.ensures.clean) ∙ keeps.blocks h in
    if_err_map c.free_pages.result (c.free_pages.ensures.damaged (keeps.gate.honest.0 h))
    (λ f p. ⊎_elim (λ (of_device : IsOfDevice f). inl of_device)
    (λ breaks. inr (
      breaks.0,
      breaks.1,
      subst (λ (x : Header). below.BreaksAt (blocks_behind old) x breaks.0) keeps.header
          (subst (λ (b : Blocks). below.BreaksAt b mid.file.header breaks.0) blocks breaks.2),
    )) p)
