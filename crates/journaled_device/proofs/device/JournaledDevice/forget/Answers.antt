-- What is given up was noted, and nothing is noted of what is read then.
use Rattle.std.proofs.Common.{inl}
use Rattle.committed_log.specs.Committed.{base_of, journal_of}
use Rattle.logged_pair.specs.Standing.{log_of, pair_of, shown_of}
use Rattle.journaled_device.specs.DeviceLaws.{shown_blocks}
use Rattle.journaled_device.proofs.GivingUp.{stops_given_up}
use Rattle.journaled_device.proofs.Noting.{noted_new, noted_same, only_new}
use Rattle.journaled_device.proofs.device.JournaledDevice.forget.Goals as goal

pub invariant_of-self : goal.invariant_of-self
invariant_of-self g c = record {
  noted = λ h'.
      let p = c.args.self.now.pair in
      let h = c.give_up.ensures.honest.1 h' in
      noted_same p c.give_up.new.self c.args.self.now.past.taken (c.args.self.now.noted h)
      (c.give_up.ensures.keeps h).stops.later (c.in_err-give_up.ensures.shown h)
      (λ k is. inl (c.in_err-give_up.ensures.no_more h k is));
}

pub returns-in_err-give_up-clause-stops : goal.returns-in_err-give_up-clause-stops
returns-in_err-give_up-clause-stops g c = λ h.
    stops_given_up c.args.self.now.pair c.give_up.new.self (c.give_up.ensures.keeps h)

pub invariant_of-self-2 : goal.invariant_of-self-2
invariant_of-self-2 g c = record {
  noted = λ h'.
      let d = c.give_up.new.self in
      let p = g.met.P.DevicePair in
      let h = c.give_up.ensures.honest.1 h' in
      noted_new d c.new-self.result.taken c.new-self.ensures
      (shown_blocks d h' (p.whole (pair_of d) (base_of (log_of d)) (journal_of (log_of d)) h'
      (p.shown_counts (pair_of d) h')))
      (c.in_ok-give_up.ensures.one h);
}

pub returns-clause-durable : goal.returns-clause-durable
returns-clause-durable g c = λ h x now.
    only_new (shown_of c.give_up.new.self) c.new-self.result.taken x c.new-self.ensures now

pub returns-clause-stops : goal.returns-clause-stops
returns-clause-stops g c = λ h.
    stops_given_up c.args.self.now.pair c.give_up.new.self (c.give_up.ensures.keeps h)
