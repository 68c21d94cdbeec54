-- The goals of `PageCache::settle` that are proved by hand.
use Rattle.std.proofs.Common.{inl, inr, ◌≡◌, ◌∙◌, ◌⊎◌, rules, sym, subst, ⊎_elim}
use Rattle.std.specs.Prelude.{OnOk}
use Rattle.page_file.specs.Fault.{HasCause, IsDamage, IsOfDevice}
use Rattle.page_file.specs.File as below
use Rattle.page_file.specs.Laws.{is_open}
use Rattle.page_file.specs.Layout.{version_in, version_number}
use Rattle.page_file.specs.Stops.{SameButGate}
use Rattle.page_file.specs.declared.file.PageFile.{PageFile}
use Rattle.page_file.specs.declared.gate.Gate.{Gate}
use Rattle.page_file.specs.declared.gate.Gate.TheVariants.{Shut, Open, Unsure}
use Rattle.page_cache.specs.Cache.{device_of, gate_of}
use Rattle.page_cache.specs.Frames.{frame_at}
use Rattle.page_cache.specs.Laws.{the_map_is_kept_in_turn}
use Rattle.page_cache.proofs.Behind.{lies_below, map_by_file, map_kept, none_changed, unchanged}
use Rattle.page_cache.proofs.Results.{at_error, no_success, on_err_all, on_err_map, on_ok_map, refused_cause}
use Rattle.page_cache.proofs.Stops.{stops_refused, stops_settled}
use Rattle.page_cache.proofs.Kept.{kept_clean}
use Rattle.page_cache.proofs.cache.PageCache.settle.Goals as goal

shut_not_open : (x : Gate) → x ≡ Shut → x ≡ Open → ⊥
shut_not_open x a b = let e = sym a ∙ b in cc

unsure_not_open : (x : Gate) → x ≡ Unsure → x ≡ Open → ⊥
unsure_not_open x a b = let e = sym a ∙ b in cc

pub returns-in_err-write_all : goal.returns-in_err-write_all
returns-in_err-write_all g c =
    let old = c.args.self.now in let new = c.write_all.new.self in
    let r = c.from_residual.result in let f = c.in_err-write_all.field-0.0 in
    let refused = c.from_residual.ensures.1 in let kept = c.write_all.ensures.kept in
    let opened : gate_of old ≡ Open =
    ⊎_elim (λ (is : gate_of old ≡ Open). is)
    (λ (closed : ¬ (gate_of old ≡ Open)).
    absurd (let never = (c.in_err-write_all.ensures.quiet closed).1 in cc))
    (is_open (gate_of old)) in
    record {
      shut = no_success r f _ refused;
      lies = λ h. no_success r f _ refused;
      refused = on_err_all r (inr (kept.gate.gate ∙ opened, opened));
      was_shut = λ shut. absurd (shut_not_open (gate_of old) shut opened);
      was_unsure = λ h unsure. absurd (unsure_not_open (gate_of old) unsure opened);
      version = λ h _. no_success r f _ refused;
      map = map_kept old new kept;
      holds = c.write_all.ensures.holds;
      stops = λ h. stops_refused old new h opened
          (λ b left. g.met.D.BlockDevice.only_now (device_of old) b h left) kept.gate;
      looks = kept.looks;
      capacity = kept.capacity;
      honest = kept.gate.honest;
      faults = λ h. at_error r f IsOfDevice refused (c.in_err-write_all.ensures.faults h);
      other_faults =
          at_error r f (λ e. IsOfDevice e ⊎ IsDamage e) refused c.in_err-write_all.ensures.other_faults;
      cause = refused_cause _ _ r f refused c.in_err-write_all.ensures.cause.refused;
    }

pub returns : goal.returns
returns g c =
    let old = c.args.self.now in let mid = c.write_all.new.self in
    let none = c.in_ok-write_all.ensures.clean in let kept = c.write_all.ensures.kept in
    let honest = kept.gate.honest in let settled = c.settle.ensures in
    let quiet = c.write_all.ensures.quiet in
    record {
      shut = settled.shut;
      lies = λ h.
          on_ok_map c.settle.result (settled.lies (honest.0 h)) (λ lies. (lies_below _ none _).1 lies);
      refused = on_err_map c.settle.result settled.refused (λ is. ⊎_elim
          (λ (unsure : below.gate_of c.settle.new.self ≡ Unsure). inl unsure)
          (λ opened. inr (opened.0, sym kept.gate.gate ∙ opened.1)) is);
      was_shut = λ shut.
          let closed = shut_not_open (gate_of old) shut in
          let still = settled.was_shut (kept.gate.gate ∙ shut) in (
            unchanged old _ (still.0 ∙ (quiet closed).0) (λ k. none k ∙ sym (none_changed old closed k))
                kept.looks kept.capacity,
            still.1,
          );
      was_unsure = λ h unsure.
          subst (λ (f : PageFile _ _). SameButGate (below.blocks_of c.settle.new.self) (below.blocks_of f))
          (quiet (unsure_not_open (gate_of old) unsure)).0
          (settled.was_unsure (honest.0 h) (kept.gate.gate ∙ unsure));
      version = λ h opened.
          subst
          (λ v. OnOk c.settle.result (version_in (below.blocks_of c.settle.new.self) ≡ version_number v))
          (kept.gate.version h) (settled.version (honest.0 h) (kept.gate.gate ∙ opened));
      map = the_map_is_kept_in_turn old mid _ honest.0 (map_kept old mid kept)
          (map_by_file mid _ none none settled.map);
      holds = c.write_all.ensures.holds;
      stops = λ h. stops_settled old _ mid.file none h
          (λ b left. g.met.D.BlockDevice.only_now (device_of old) b h left) kept.gate
          (λ closed. (quiet closed).0) (settled.stops (honest.0 h));
      looks = kept.looks;
      capacity = kept.capacity;
      honest = (λ h. settled.honest.0 (honest.0 h), λ h. honest.1 (settled.honest.1 h));
      faults = λ h. settled.faults (honest.0 h);
      other_faults = search rules;
      cause = subst
          (λ n. HasCause n (g.D.BlockDevice.faults (below.device_of c.settle.new.self)) c.settle.result)
          c.in_ok-write_all.ensures.cause.ok settled.cause;
    }

pub invariant_of-self : goal.invariant_of-self
invariant_of-self g c =
    let mid = c.write_all.new.self in
    let kept =
    kept_clean mid.file c.settle.new.self (frame_at mid.frames.entries) c.settle.ensures.map.next
    c.settle.ensures.honest.1 c.settle.ensures.map.given_stay c.in_ok-write_all.ensures.clean
    (record { within = mid.within; true_to = mid.true_to; behind_the_gate = mid.behind_the_gate }) in
    record {
      within = kept.within;
      true_to = kept.true_to;
      behind_the_gate = kept.behind_the_gate;
      counted = mid.counted;
    }
