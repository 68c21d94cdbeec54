-- Want of memory is a step of the store.
use Rattle.layer_store.proofs.MemoryLemmas.{replies_want, takes_want}
use Rattle.layer_store.proofs.StoreLemmas.{is_dead, not_both, replies_nothing, takes_nothing}
use Rattle.layer_store.proofs.store.Store.out_of_memory.Goals as goal

pub returns-then-self-clause-step : goal.returns-then-self-clause-step
returns-then-self-clause-step g c = λ command may. takes_nothing c.args.self.now command c.if-self.true

pub returns-clause-step : goal.returns-clause-step
returns-clause-step g c = λ command may. takes_want c.args.self.now command c.if-self.false may

pub returns-then-self-clause-reply : goal.returns-then-self-clause-reply
returns-then-self-clause-reply g c = λ command may. replies_nothing c.args.self.now command c.if-self.true

pub returns-clause-reply : goal.returns-clause-reply
returns-clause-reply g c = λ command may. replies_want c.args.self.now command c.if-self.false may

pub returns-clause-dead : goal.returns-clause-dead
returns-clause-dead g c = λ dead. absurd (not_both _ (is_dead c.args.self.now dead) c.if-self.false)
