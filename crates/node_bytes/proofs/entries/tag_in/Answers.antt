-- A page with tags has each in its place.
use Rattle.std.proofs.Common.{◌∙◌, sym}
use Rattle.node_bytes.proofs.Places.{tag_none, tag_there}
use Rattle.node_bytes.proofs.entries.tag_in.Goals as goal

pub returns-then-tagged : goal.returns-then-tagged
returns-then-tagged g c = c.read_u32.ensures
    ∙ sym (tag_there g.row.D c.args.place c.args.page.now (sym c.requires.tagged ∙ c.if-tagged.true))

pub returns-else-tagged : goal.returns-else-tagged
returns-else-tagged g c =
    sym (tag_none g.row.D c.args.place c.args.page.now (sym c.requires.tagged ∙ c.if-tagged.false))
