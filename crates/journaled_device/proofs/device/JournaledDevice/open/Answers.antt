-- What is opened is one commit, and nothing is noted of it.
use Rattle.std.proofs.Common.{◌∙◌, sym}
use Rattle.committed_log.specs.Committed.{base_of, journal_of}
use Rattle.logged_pair.specs.Standing.{log_of, pair_of}
use Rattle.journaled_device.specs.DeviceLaws.{shown_blocks}
use Rattle.journaled_device.proofs.Noting.{noted_new}
use Rattle.journaled_device.proofs.device.JournaledDevice.open.Goals as goal

pub invariant_of-result : goal.invariant_of-result
invariant_of-result g c = record {
  noted = λ h'.
      let d = c.in_ok-pair.pair in
      let p = g.met.P.DevicePair in
      let h = c.in_ok-pair.ensures.honest.1 h' in
      noted_new d c.new.result.taken c.new.ensures
      (shown_blocks d h' (p.whole (pair_of d) (base_of (log_of d)) (journal_of (log_of d)) h'
      (p.shown_counts (pair_of d) h')))
      (λ k is. c.in_ok-pair.ensures.commits h k is ∙ sym (c.in_ok-pair.ensures.shown h));
}
