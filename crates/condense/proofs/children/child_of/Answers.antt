-- The goals of `child_of` that are proved by hand.
use Rattle.std.proofs.Common.{arith, rules}
use Rattle.condense.proofs.FreeLemmas.{child_pages}
use Rattle.condense.proofs.children.child_of.Goals as goal

pub overflow_cast-result : goal.overflow_cast-result
overflow_cast-result g c =
    omega (
      arith,
      child_pages c.args.node.now.level c.args.node.now.entries.items c.deref.result.now c.args.at
          c.index-deref-at.result c.requires.spellable.refers c.deref.ensures.0 (search rules) c.requires.above,
    )

pub returns-clause-low : goal.returns-clause-low
returns-clause-low g c =
    (child_pages c.args.node.now.level c.args.node.now.entries.items c.deref.result.now c.args.at
    c.index-deref-at.result c.requires.spellable.refers c.deref.ensures.0 (search rules)
    c.requires.above).0

pub returns-clause-small : goal.returns-clause-small
returns-clause-small g c =
    (child_pages c.args.node.now.level c.args.node.now.entries.items c.deref.result.now c.args.at
    c.index-deref-at.result c.requires.spellable.refers c.deref.ensures.0 (search rules)
    c.requires.above).1
