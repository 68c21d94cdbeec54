-- A box with a volume makes each entry grow that does not hold it, and an entry with a volume grows by any.
use Rattle.std.proofs.Common.{List, arith, get_or}
use Rattle.std.proofs.lemmas.Option.{slice_get-get_or}
use Rattle.tree_node.specs.Boxes.{box_at, no_item}
use Rattle.tree_node.specs.Nodes.{Item}
use Rattle.node_bytes.specs.Views.{content_in}
use Rattle.choose_subtree.proofs.HolderLaws.{grows_or_holds, grows_round_volume, wide_has_volume}
use Rattle.choose_subtree.proofs.holder.all_grow.Goals as goal

pub returns-then-volume-ne0 : goal.returns-then-volume-ne0
returns-then-volume-ne0 g c = λ _ j lt out.
    let items : List Item = (content_in c.args.node.now).entries in
    grows_round_volume g.row.D (box_at items j) c.args.new.now (c.requires.boxes j no_item lt)
    c.low.ensures.is_box
    (λ none. absurd (omega (arith, none, c.volume.ensures.value, c.if-volume-ne0.true))) out

pub returns-else-volume-ne0 : goal.returns-else-volume-ne0
returns-else-volume-ne0 g c = λ wide j lt out.
    let items : List Item = (content_in c.args.node.now).entries in
    grows_or_holds g.row.D (box_at items j) c.args.new.now (c.requires.boxes j no_item lt)
    (wide_has_volume g.row.D (box_at items j)
    (λ axis below. c.none_is_flat.ensures.0 wide axis j (get_or items j no_item) below
    (slice_get-get_or items j no_item lt))) out
