-- The key stays where the page is written after it, and nothing outside the child changes.
use Rattle.std.proofs.Common.{arith}
use Rattle.id_page.proofs.LinkPlaces.{link_keeps, link_written}
use Rattle.id_page.proofs.links.write_link.Goals as goal

pub returns-clause-written : goal.returns-clause-written
returns-clause-written c =
    rw c.write_u32.ensures
    (rw c.write_u64.ensures
    (link_written c.args.place c.link_place-at.result c.args.key c.args.child c.args.page.now
    c.link_place-at.ensures.value c.told-page c.requires.within (omega arith) (omega arith)))

pub returns-clause-others : goal.returns-clause-others
returns-clause-others c =
    rw c.write_u32.ensures
    (rw c.write_u64.ensures
    (link_keeps c.args.place c.link_place-at.result c.args.key c.args.child c.args.page.now
    c.link_place-at.ensures.value c.told-page c.requires.within))
