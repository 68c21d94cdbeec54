-- Each entry is written after those before it.
use Rattle.std.proofs.Common.{◌≡◌, ◌<◌, List, length, get_or, map, rules, sym, ◌∙◌, ap, arith, subst}
use Rattle.std.proofs.lemmas.List.{get_or-map, length-map}
use Rattle.tree_node.specs.declared.node.Entry.{Entry}
use Rattle.tree_node.specs.Nodes.{Item, item_of, content_of}
use Rattle.node_bytes.specs.Layout.{IsOfLevel}
use Rattle.node_bytes.proofs.Reading.{spelled}
use Rattle.node_bytes.proofs.TidyLemmas.{written_page}
use Rattle.node_bytes.proofs.Writing.{untagged_above, written_first, written_more, written_spells}
use Rattle.node_bytes.proofs.Writing.{written_rest, written_tags}
use Rattle.node_bytes.proofs.page.encode.Goals as goal

pub loop-place-init : goal.loop-place-init
loop-place-init g c =
    let items = c.args.node.now.entries.items in
    let many : length (map item_of items) ≡ length items = length-map items item_of in
    written_first g.row.D c.args.node.now.level (map item_of items) c.write_head.new.page
    c.write_head.array_long (rw many (rw (sym c.len-count.ensures.value) c.write_head.ensures.head))
    c.write_head.ensures.rest

pub write_entry-requires : goal.write_entry-requires
write_entry-requires g c =
    let items = c.args.node.now.entries.items in (
      search rules,
      (
        search rules,
        (
          omega (arith, c.requires.few, length-map items item_of),
          written_tags g.row.D c.args.node.now.level (map item_of items) c.loop-place.place c.loop-place.page
              c.loop-place.invariant,
        ),
      ),
    )

pub loop-place-preserved : goal.loop-place-preserved
loop-place-preserved g c =
    let items = c.args.node.now.entries.items in
    let place = c.loop-place.place in
    let entry = c.index-deref-place.result in
    let few = c.requires.few in
    let many : length (map item_of items) ≡ length items = length-map items item_of in
    let below : place < length items = omega arith in
    let is : entry ≡ get_or items place entry = c.index-deref-place.is
    ∙ ap (λ (xs : List (Entry g.row.D)). get_or xs place entry) c.deref.ensures.0 in
    let other : get_or (map item_of items) place (item_of entry) ≡ item_of entry =
    get_or-map item_of items place entry (item_of entry) below ∙ ap item_of (sym is) in
    let of =
    subst (λ (x : Item). IsOfLevel c.args.node.now.level x.reference x.tag) other
    (c.requires.refers place (item_of entry) (omega (arith, many, below))) in
    written_more g.row.D c.args.node.now.level (map item_of items) place c.loop-place.page
    c.write_entry.new.page (item_of entry) c.loop-place.invariant (omega arith) c.write_entry.array_long
    (c.write_entry.ensures.written (untagged_above c.args.node.now.level entry.reference entry.tag of))
    c.write_entry.ensures.is_box
    (λ other. get_or-map item_of items place entry other below ∙ ap item_of (sym is))
    c.write_entry.ensures.others

pub returns-clause-spelled : goal.returns-clause-spelled
returns-clause-spelled g c =
    let node = c.args.node.now in
    let many : length (map item_of node.entries.items) ≡ length node.entries.items =
    length-map node.entries.items item_of in
    spelled g.row.D c.loop-place.page (content_of node)
    (written_spells g.row.D node.level (map item_of node.entries.items) c.loop-place.place c.loop-place.page
    node.dims c.loop-place.invariant (omega arith) c.requires)

pub returns-clause-rest : goal.returns-clause-rest
returns-clause-rest g c =
    let node = c.args.node.now in
    let many : length (map item_of node.entries.items) ≡ length node.entries.items =
    length-map node.entries.items item_of in
    rw (sym many)
    (written_rest g.row.D node.level (map item_of node.entries.items) c.loop-place.place
    c.loop-place.page c.loop-place.invariant (omega arith))

pub returns-clause-is_page : goal.returns-clause-is_page
returns-clause-is_page g c =
    let node = c.args.node.now in
    let many : length (map item_of node.entries.items) ≡ length node.entries.items =
    length-map node.entries.items item_of in
    written_page g.row.D node.level (map item_of node.entries.items) c.loop-place.place c.loop-place.page
    node.dims c.loop-place.invariant (omega arith) c.requires
