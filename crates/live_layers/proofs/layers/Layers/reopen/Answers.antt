-- A closing that is finished, or refused, and what is read after it.
use Rattle.std.proofs.Common.{◌≡◌, ◌∙◌, List, Some, ap, inl, inr, subst, sym, ⊎_elim}
use Rattle.catalog_page.specs.Layout.{Record, records_of}
use Rattle.page_cache.specs.Cache.{pages}
use Rattle.page_cache.specs.Laws.{the_gate_is_kept_in_turn}
use Rattle.live_layers.proofs.ClosingLemmas.{catalog_beside, read_image, rests_on_closed, then_read}
use Rattle.live_layers.proofs.ClosingLemmas.{unchanged_keeps_gate}
use Rattle.live_layers.specs.Layers.{catalog_in}
use Rattle.live_layers.proofs.KeepLemmas.{kept_catalog, versions_in_turn}
use Rattle.live_layers.proofs.QuestionLemmas.{fault_goes_on, fault_may}
use Rattle.live_layers.specs.Faults.{may_refuse}
use Rattle.store_law.specs.Stops.{is_end}
use Rattle.live_layers.proofs.layers.Layers.reopen.Goals as goal

pub returns-in-Err-clause-leaves : goal.returns-in-Err-clause-leaves
returns-in-Err-clause-leaves g c = λ t sound. record {
  stops = λ ts rests. c.in-Err.ensures.stops ts t sound rests;
  rests = λ ts rests. c.in-Err.ensures.rests ts t sound rests;
  closed = λ begun. absurd begun;
  quiet = λ settled. unchanged_keeps_gate c.args.self.now.cache c.settle.new.self.cache
      (c.in-Err.ensures.was_settled settled).0;
}

pub returns-in-Err-clause-goes_on : goal.returns-in-Err-clause-goes_on
returns-in-Err-clause-goes_on g c = ap is_end c.as_refusal.ensures ∙ fault_goes_on c.in-Err.fault

pub returns-in-Ok-clause-leaves : goal.returns-in-Ok-clause-leaves
returns-in-Ok-clause-leaves g c = λ t sound.
    let old = c.args.self.now in
    let mid = c.settle.new.self in
    let new = c.read_again.new.self in
    let settled = c.in_default.ensures in
    let honest = (settled.sound t sound).map.honest in
    let image = settled.closed t sound in
    let gate = c.in-Ok.ensures.gate in
    let there = read_image mid.cache new.cache t honest settled.shut gate image in
    record {
      stops = λ ts rests. then_read _ mid.cache new.cache ts t honest settled.shut image
          (settled.stops ts t sound rests) gate;
      rests = λ ts rests. rests_on_closed new.cache ts t there;
      closed = λ begun. (gate.gate ∙ settled.shut, there);
      quiet = λ was. the_gate_is_kept_in_turn old.cache mid.cache new.cache
          (unchanged_keeps_gate old.cache mid.cache (settled.was_settled was).0) gate;
    }

pub returns-in-Err-read_again-clause-leaves : goal.returns-in-Err-read_again-clause-leaves
returns-in-Err-read_again-clause-leaves g c = λ t sound.
    let old = c.args.self.now in
    let mid = c.settle.new.self in
    let new = c.read_again.new.self in
    let settled = c.in_default.ensures in
    let honest = (settled.sound t sound).map.honest in
    let image = settled.closed t sound in
    let gate = c.in-Err-read_again.ensures.gate in
    let there = read_image mid.cache new.cache t honest settled.shut gate image in
    record {
      stops = λ ts rests. then_read _ mid.cache new.cache ts t honest settled.shut image
          (settled.stops ts t sound rests) gate;
      rests = λ ts rests. rests_on_closed new.cache ts t there;
      closed = λ begun. (gate.gate ∙ settled.shut, there);
      quiet = λ was. the_gate_is_kept_in_turn old.cache mid.cache new.cache
          (unchanged_keeps_gate old.cache mid.cache (settled.was_settled was).0) gate;
    }

pub returns-in-Ok-clause-trees : goal.returns-in-Ok-clause-trees
returns-in-Ok-clause-trees g c = λ t sound name s there.
    let settled = c.in_default.ensures in
    c.in-Ok.ensures.trees t (settled.sound t sound) settled.written name s
    (settled.trees t sound name s there)

pub returns-in-Err-read_again-clause-trees : goal.returns-in-Err-read_again-clause-trees
returns-in-Err-read_again-clause-trees g c = λ t sound name s there.
    let settled = c.in_default.ensures in
    c.in-Err-read_again.ensures.trees t (settled.sound t sound) settled.written name s
    (settled.trees t sound name s there)

pub returns-in-Ok-clause-beside : goal.returns-in-Ok-clause-beside
returns-in-Ok-clause-beside g c = λ honest.
    let settled = c.settle.ensures in
    let there = settled.honest.0 honest in
    catalog_beside c.args.self.now.cache c.settle.new.self.cache c.read_again.new.self.cache there
    (settled.beside honest) (c.read_again.ensures.map there)

pub returns-in-Err-read_again-clause-beside : goal.returns-in-Err-read_again-clause-beside
returns-in-Err-read_again-clause-beside g c = λ honest.
    let settled = c.settle.ensures in
    let there = settled.honest.0 honest in
    catalog_beside c.args.self.now.cache c.settle.new.self.cache c.read_again.new.self.cache there
    (settled.beside honest) (c.read_again.ensures.map there)

pub returns-in-Err-read_again-clause-records : goal.returns-in-Err-read_again-clause-records
returns-in-Err-read_again-clause-records g c = c.in-Err-read_again.ensures.records ∙ c.settle.ensures.records

pub returns-in-Ok-clause-read : goal.returns-in-Ok-clause-read
returns-in-Ok-clause-read g c = λ honest. c.in-Ok.ensures.read (c.settle.ensures.honest.0 honest)

pub returns-in-Ok-clause-spelled : goal.returns-in-Ok-clause-spelled
returns-in-Ok-clause-spelled g c =
    λ t sound was unopened. c.in-Ok.ensures.read (c.settle.ensures.honest.0 sound.map.honest)

pub returns-in-Err-read_again-clause-spelled : goal.returns-in-Err-read_again-clause-spelled
returns-in-Err-read_again-clause-spelled g c = λ t sound was unopened.
    let mid = c.settle.new.self in
    let new = c.read_again.new.self in
    let settled = c.in_default.ensures in
    let there = settled.sound t sound in
    subst (λ (rs : List Record). catalog_in (pages new.cache) ≡ Some rs)
    (sym c.in-Err-read_again.ensures.records)
    (kept_catalog mid.cache new.cache (records_of mid.records) there.map.honest
    (c.read_again.ensures.map there.map.honest) (there.catalog settled.written))

pub returns-in-Err-clause-versions : goal.returns-in-Err-clause-versions
returns-in-Err-clause-versions g c = c.in-Err.ensures.versions

pub returns-in-Ok-clause-versions : goal.returns-in-Ok-clause-versions
returns-in-Ok-clause-versions g c =
    let settled = c.in_default.ensures in
    versions_in_turn c.args.self.now c.settle.new.self c.read_again.new.self settled.honest.0
    settled.versions c.in-Ok.ensures.versions

pub returns-in-Err-read_again-clause-versions : goal.returns-in-Err-read_again-clause-versions
returns-in-Err-read_again-clause-versions g c =
    let settled = c.in_default.ensures in
    versions_in_turn c.args.self.now c.settle.new.self c.read_again.new.self settled.honest.0
    settled.versions c.in-Err-read_again.ensures.versions

pub returns-in-Err-clause-met : goal.returns-in-Err-clause-met
returns-in-Err-clause-met g c = λ honest.
    inl (ap may_refuse c.as_refusal.ensures ∙ fault_may c.in-Err.fault c.in-Err.ensures.other_faults)

pub returns-in-Err-read_again-clause-met : goal.returns-in-Err-read_again-clause-met
returns-in-Err-read_again-clause-met g c = λ honest.
    ⊎_elim inl (λ damaged. inr (inr damaged)) (c.in-Err-read_again.ensures.met (c.settle.ensures.honest.0 honest))
