-- The goals of `position_of` that are proved by hand.
use Rattle.std.proofs.Common.{◌≡◌, ◌∙◌, ap, sym, arith, get_or, length, List, ◌<◌}
use Rattle.std.specs.Cmp.Rules.{signed_items}
use Rattle.std.proofs.lemmas.Bool.{true≢false}
use Rattle.std.proofs.lemmas.Bool.Decides.{Decides-and}
use Rattle.box_math.specs.Bounds.{Bounds}
use Rattle.tree_node.specs.Nodes.{Item, item_of}
use Rattle.node_bytes.specs.Views.{content_in}
use Rattle.condense.proofs.CutLemmas.{same_box}
use Rattle.condense.proofs.HoldLemmas.{found_at, is_at, unset_is_not, up_to}
use Rattle.condense.proofs.leaf.position_of.Goals.{else-entry-id-via-then-entry-id+then-entry-tag+else-eq}
use Rattle.condense.proofs.leaf.position_of.Goals.{else-entry-id-via-then-entry-id+else-entry-tag}
use Rattle.condense.proofs.leaf.position_of.Goals.{else-entry-id-via-else-entry-id}
use Rattle.condense.proofs.leaf.position_of.Goals as goal

pub entries-init : goal.entries-init
entries-init g c = λ k below d lt.
    unset_is_not g.row.D (content_in c.args.leaf.now).entries c.args.bounds.now c.args.id c.args.tag
    c.mask-mask.result k d c.low.ensures.is_box c.mask-mask.ensures.met
    (c.next_set-place.ensures.unset k (omega arith) below) lt

pub returns-then-eq-clause-found : goal.returns-then-eq-clause-found
returns-then-eq-clause-found g c = λ d.
    let e = c.entry-entry.result in
    let b : Bounds = c.args.bounds.now in
    let both =
    (Decides-and _ _ (signed_items e.bounds.low b.low) (signed_items e.bounds.high b.high)).0
    (sym c.if-eq.ensures) in
    found_at (content_in c.args.leaf.now).entries c.entries.place (item_of e) b c.args.id c.args.tag d
    (omega (arith, c.entries-test.true, c.len.ensures.count)) c.entry-entry.ensures c.if-entry-id.true
    c.if-entry-tag.true
    (same_box e.bounds b both.0 both.1)

pub returns-then-eq-clause-first : goal.returns-then-eq-clause-first
returns-then-eq-clause-first g c = λ k below d is. c.entries.invariant k below d
    (omega (arith, below, c.entries-test.true, c.len.ensures.count)) is

pub entries-preserved : goal.entries-preserved
entries-preserved g c =
    let e = c.entry-entry.result in
    let b : Bounds = c.args.bounds.now in
    let items : List Item = (content_in c.args.leaf.now).entries in
    let place = c.entries.place in
    let here : (d : Item) → place < length items
    → get_or items place d ≡ record { bounds = b; reference = c.args.id; tag = c.args.tag }
    → (e.reference ≡ c.args.id) × (e.tag ≡ c.args.tag) × (e.bounds ≡ b) = λ d within is.
    is_at items place (item_of e) b c.args.id c.args.tag d within c.entry-entry.ensures is in
    up_to (λ k. (d : Item) → k < length items
    → ¬ (get_or items k d ≡ record { bounds = b; reference = c.args.id; tag = c.args.tag })) place
    c.next_set-place-in-entries.result c.entries.invariant
    (elim c.else-entry-id.branch [
      | else-entry-id-via-then-entry-id+then-entry-tag+else-eq w ↦ λ d within is.
          let box = (here d within is).2 in
          let both =
          (Decides-and _ _ (signed_items e.bounds.low b.low) (signed_items e.bounds.high b.high)).1
          (ap (λ (x : Bounds). x.low) box, ap (λ (x : Bounds). x.high) box) in
          absurd (true≢false (sym both ∙ sym w.if-eq.ensures))
      | else-entry-id-via-then-entry-id+else-entry-tag w ↦ λ d within is. absurd
          (w.if-entry-tag.false (here d within is).1)
      | else-entry-id-via-else-entry-id w ↦ λ d within is. absurd (w.if-entry-id.false (here d within is).0)
    ])
    (λ k up below d lt. unset_is_not g.row.D items b c.args.id c.args.tag c.mask-mask.result k d
    c.low.ensures.is_box c.mask-mask.ensures.met (c.next_set-place-in-entries.ensures.unset k up below)
    lt)
