-- Without its head, or with a place that holds no entry of the level, the page spells no node of it, and else
-- that of its places.
use Rattle.std.proofs.Common.{◌≡◌, ◌++◌, ◌∷◌, ℕ, List, [], length, map, true, false, refl, sym, ◌∙◌, ap}
use Rattle.std.proofs.Common.{arith, rules, below_more, slice_index, ◌<◌}
use Rattle.std.proofs.lemmas.List.{map-append}
use Rattle.block_bytes.specs.PlaceLaws.{first_places-more, first_places-none}
use Rattle.tree_node.specs.declared.node.Entry.{Entry}
use Rattle.tree_node.specs.Nodes.{Item, NodeContent, item_of}
use Rattle.node_bytes.specs.Layout.{item_at, items_at, IsEntry}
use Rattle.node_bytes.proofs.Named.{spells_nodes}
use Rattle.node_bytes.proofs.Reading.{spells, spellable, no_head, no_place, all_places}
use Rattle.node_bytes.proofs.page.decode.Goals as goal

pub returns-then-not-has_node_head-clause-none : goal.returns-then-not-has_node_head-clause-none
returns-then-not-has_node_head-clause-none g c =
    no_head g.row.D c.args.level c.args.page.now
    (λ head. let found : c.has_node_head.result ≡ true = c.has_node_head.ensures.1 head in cc)

pub loop-place-init : goal.loop-place-init
loop-place-init g c = record {
  read = ap (map item_of) c.new-entries.ensures ∙ sym (first_places-none (item_at g.row.D c.args.page.now));
  many = ap length c.new-entries.ensures;
  each = λ k lt. absurd (omega arith);
}

pub returns-in-None-clause-none : goal.returns-in-None-clause-none
returns-in-None-clause-none g c =
    no_place g.row.D c.args.level c.loop-place.place c.args.page.now (omega arith)
    (λ is. let found : false ≡ true = c.in-None.ensures.some.1 is in cc)

pub loop-place-preserved : goal.loop-place-preserved
loop-place-preserved g c =
    let before = c.loop-place.invariant in
    let D = g.row.D in
    let page = c.args.page.now in
    let place = c.loop-place.place in
    let items : List (Entry D) = c.loop-place.entries.items in
    record {
      read = ap (map item_of) c.push.ensures.items ∙ map-append item_of items (c.in-Some.entry ∷ [])
          ∙ ap (λ (xs : List Item). xs ++ item_of c.in-Some.entry ∷ []) before.read
          ∙ ap (λ (x : Item). items_at D page place ++ x ∷ []) c.in-Some.ensures.value
          ∙ sym (first_places-more (item_at D page) place);
      many = search rules;
      each = below_more (λ k. IsEntry D c.args.level (item_at D page k)) place before.each
          (c.in-Some.ensures.some.0 refl);
    }

pub returns-clause-spelled : goal.returns-clause-spelled
returns-clause-spelled g c =
    all_places g.row.D c.args.level c.loop-place.place c.args.page.now
    (map item_of c.loop-place.entries.items) (c.has_node_head.ensures.0 c.if-not-has_node_head.false)
    (omega arith)
    c.loop-place.invariant.read c.loop-place.invariant.each

pub returns-clause-spellable : goal.returns-clause-spellable
returns-clause-spellable g c =
    let content : NodeContent =
    record { level = c.args.level; entries = map item_of c.loop-place.entries.items } in
    spellable g.row.D c.args.page.now content
    (spells g.row.D c.args.page.now content (returns-clause-spelled g c))

pub returns-clause-boxes : goal.returns-clause-boxes
returns-clause-boxes g c =
    let bytes : (k : ℕ) → slice_index c.args.page.now k < 256 = search rules in
    let content : NodeContent =
    record { level = c.args.level; entries = map item_of c.loop-place.entries.items } in
    (spells_nodes g.row.D c.args.page.now content bytes
    (spells g.row.D c.args.page.now content (returns-clause-spelled g c))).boxes
