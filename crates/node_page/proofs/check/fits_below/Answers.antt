-- The counts and the box are those that were compared.
use Rattle.std.proofs.Common.{◌≡◌, ◌∙◌, List, ap, map, sym, arith}
use Rattle.std.proofs.lemmas.List.{length-map}
use Rattle.tree_node.specs.Boxes.{least_box}
use Rattle.tree_node.specs.declared.node.Entry.{Entry}
use Rattle.tree_node.specs.Nodes.{item_of}
use Rattle.node_bytes.proofs.BoxTests.{same_box}
use Rattle.node_page.proofs.check.fits_below.Goals as goal

pub returns : goal.returns
returns g c =
    let same = same_box c.args.bounds.now c.least.result c.eq.result c.eq.ensures in
    let entries : List (Entry g.row.D) = c.args.node.now.entries.items in
    let is : c.least.result ≡ least_box g.row.D (map item_of entries) = c.least.ensures
    ∙ ap (λ (es : List (Entry g.row.D)). least_box g.row.D (map item_of es)) c.as_slice.ensures.value in (
      λ equal. (
        omega (
          arith,
          length-map entries item_of,
          c.least_entries.ensures,
          c.len-count.ensures.value,
          c.if-count-least_entries.false,
        ),
        omega (
          arith,
          length-map entries item_of,
          c.from-most.ensures,
          c.len-count.ensures.value,
          c.if-count-most.false,
        ),
        same.0 equal ∙ is,
      ),
      λ all. same.1 (all.2 ∙ sym is),
    )
