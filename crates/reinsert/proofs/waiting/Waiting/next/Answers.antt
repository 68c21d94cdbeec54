-- The goals of `next` that are proved by hand.
use Rattle.std.proofs.Common.{◌*◌, length, ap, arith}
use Rattle.std.proofs.lemmas.List.{length-append}
use Rattle.std.specs.Option.{option_to_list}
use Rattle.node_bytes.specs.Layout.{IsOfLevel}
use Rattle.reinsert.specs.declared.waiting.Wait.{Wait}
use Rattle.reinsert.specs.Called.{free_levels}
use Rattle.reinsert.proofs.WaitLemmas.{popped_none, popped_some, popped_fewer, popped_has, rest_has}
use Rattle.reinsert.proofs.waiting.Waiting.next.Goals as goal

pub invariant_of-self-clause-room : goal.invariant_of-self-clause-room
invariant_of-self-clause-room g c =
    omega (
      arith,
      ap length c.pop.ensures.items,
      length-append c.pop.new.self.items (option_to_list c.pop.result),
      c.args.self.now.room,
    )

pub invariant_of-self-clause-refers : goal.invariant_of-self-clause-refers
invariant_of-self-clause-refers g c =
    rest_has (λ (w : Wait g.row.D). IsOfLevel w.level w.entry.reference w.entry.tag)
    c.args.self.now.waits.items c.pop.new.self.items (option_to_list c.pop.result) c.pop.ensures.items
    c.args.self.now.refers

pub returns-clause-none : goal.returns-clause-none
returns-clause-none g c =
    popped_none c.args.self.now.waits.items c.pop.new.self.items c.pop.result c.pop.ensures.items
    c.pop.ensures.variant

pub returns-clause-some : goal.returns-clause-some
returns-clause-some g c =
    popped_some c.args.self.now.waits.items c.pop.new.self.items c.pop.result c.pop.ensures.items

pub returns-clause-refers : goal.returns-clause-refers
returns-clause-refers g c =
    popped_has (λ (w : Wait g.row.D). IsOfLevel w.level w.entry.reference w.entry.tag)
    c.args.self.now.waits.items c.pop.new.self.items c.pop.result c.pop.ensures.items
    c.args.self.now.refers

pub returns-clause-measure : goal.returns-clause-measure
returns-clause-measure g c =
    popped_fewer c.args.self.now.waits.items c.pop.new.self.items c.pop.result
    (30 * free_levels c.args.self.now.called) c.pop.ensures.items
