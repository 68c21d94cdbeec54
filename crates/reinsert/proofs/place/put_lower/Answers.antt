-- The goals of `put_lower` that are proved by hand.
use Rattle.std.proofs.Common.{refl}
use Rattle.reinsert.proofs.AboveLemmas.{above_some, above_none}
use Rattle.reinsert.proofs.place.put_lower.Goals as goal

pub returns-in-Some-clause-entries : goal.returns-in-Some-clause-entries
returns-in-Some-clause-entries g c =
    above_some c.args.node.now.level c.args.node.now.entries.items c.deref_mut.result.now c.args.at
    c.args.lower c.index-deref_mut-at.result c.requires.within c.deref_mut.ensures.value c.requires.refers
    c.requires.beside _ _ _ refl c.in-Some.is c.push.ensures.items

pub returns-in_default-clause-entries : goal.returns-in_default-clause-entries
returns-in_default-clause-entries g c =
    above_none c.args.node.now.level c.args.node.now.entries.items c.deref_mut.result.now c.args.at
    c.args.lower c.index-deref_mut-at.result c.requires.within c.deref_mut.ensures.value c.requires.refers
    c.requires.beside _ c.in_default.not-Some refl
