-- What is read stays, and so do the notes.
use Rattle.std.proofs.Common.{inl}
use Rattle.journaled_device.proofs.Noting.{noted_same}
use Rattle.journaled_device.proofs.device.JournaledDevice.bring_home.Goals as goal

pub invariant_of-self-2 : goal.invariant_of-self-2
invariant_of-self-2 g c = record {
  noted = λ h'.
      let h = c.copy_home.ensures.honest.1 h' in
      let k = c.copy_home.ensures.keeps h in
      noted_same c.args.self.now.pair c.copy_home.new.self c.args.self.now.past.taken (c.args.self.now.noted h)
      k.stops.later (c.copy_home.ensures.shown h) (λ kept is. inl (k.now kept is));
}
