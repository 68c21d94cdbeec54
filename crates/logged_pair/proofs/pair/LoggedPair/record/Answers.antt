-- Index, the next region's first blocks, and the count are written.
use Rattle.std.proofs.Common.{◌≡◌, ◌∙◌, ℕ, List, ap, arith, inl, length, subst, sym}
use Rattle.block_device.specs.Device.{written}
use Rattle.committed_log.specs.Committed as regions
use Rattle.logged_pair.specs.CommitLaws.{few_seen}
use Rattle.logged_pair.specs.Stages.{IsRecorded}
use Rattle.logged_pair.specs.Standing.{base_of, homes_of, journal_of}
use Rattle.logged_pair.proofs.Indexing.{recorded_now}
use Rattle.logged_pair.proofs.Stood.{elsewhere_is, on_ok}
use Rattle.logged_pair.proofs.Snapped.{snapshots_then}
use Rattle.logged_pair.proofs.pair.LoggedPair.record.Goals as goal

pub returns-clause-recorded : goal.returns-clause-recorded
returns-clause-recorded g c = λ h.
    let m = c.put_next_region.new.self in let e = c.put_journal.new.self in
    let h1 = c.put_index.ensures.honest.0 h in
    let h2 = c.put_next_region.ensures.honest.0 h1 in
    on_ok c.put_journal.result _ _ (λ (w : journal_of e ≡ written 1 c.count_page.result (journal_of m)).
    subst (λ (hs : List ℕ). IsRecorded hs (journal_of e)) (sym c.put_journal.ensures.slots.homes)
    (recorded_now (homes_of m) c.len-count.result (journal_of m) (journal_of e)
    (omega (
      arith,
      c.len-count.ensures,
      ap length c.put_index.ensures.slots.homes,
      ap length c.put_next_region.ensures.slots.homes,
    )) (omega arith)
    (w ∙ ap (λ b. written 1 b (journal_of m)) c.count_page.ensures)
    (c.in_ok-put_next_region.ensures.index h1) (c.in_ok-put_next_region.ensures.next h1)))
    (c.put_journal.ensures.written h2)

pub returns-clause-shown : goal.returns-clause-shown
returns-clause-shown g c = λ h.
    let d = c.put_next_region.new.self in let e = c.put_journal.new.self in
    let h1 = c.put_index.ensures.honest.0 h in
    let h2 = c.put_next_region.ensures.honest.0 h1 in
    elsewhere_is (homes_of d) (homes_of e) (journal_of d) (journal_of e) (base_of d) (base_of e)
    c.put_journal.ensures.slots.homes (c.put_journal.ensures.base h2)
    (few_seen d.log (g.met.P.DevicePair.few_blocks (regions.pair_of d.log)).0) (d.standing h2).room
    _ (inl (omega arith)) (c.put_journal.ensures.torn h2)
    ∙ c.put_next_region.ensures.shown h1
    ∙ c.put_index.ensures.shown h

pub returns-in_err-put_next_region-clause-snapshots : goal.returns-in_err-put_next_region-clause-snapshots
returns-in_err-put_next_region-clause-snapshots g c = λ h.
    snapshots_then c.args.self.now c.put_index.new.self c.put_next_region.new.self (c.put_index.ensures.snapshots h)
    (c.put_next_region.ensures.snapshots (c.put_index.ensures.honest.0 h))

pub returns-clause-snapshots : goal.returns-clause-snapshots
returns-clause-snapshots g c = λ h.
    let d = c.args.self.now in let x = c.put_index.new.self in let m = c.put_next_region.new.self in
    let h1 = c.put_index.ensures.honest.0 h in
    snapshots_then d m c.put_journal.new.self
    (snapshots_then d x m (c.put_index.ensures.snapshots h) (c.put_next_region.ensures.snapshots h1))
    (c.put_journal.ensures.snapshots (c.put_next_region.ensures.honest.0 h1))
