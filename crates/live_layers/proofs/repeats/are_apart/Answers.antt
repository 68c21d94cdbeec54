-- One identifier more, and all of them.
use Rattle.std.proofs.Common.{◌≡◌, ◌∙◌, ◌-◌, ◌<◌, ℕ, Bool, List, false, get_or, length, map, ap, sym, subst}
use Rattle.std.proofs.Common.{arith}
use Rattle.std.proofs.lemmas.List.{get_or-map, length-map}
use Rattle.tree_node.specs.declared.node.Entry.{Entry}
use Rattle.live_layers.proofs.RepeatLemmas.{Apart, apart_more, marked_more, none_apart}
use Rattle.live_layers.proofs.repeats.are_apart.Goals as goal

pub entries-preserved : goal.entries-preserved
entries-preserved g c =
    let id : Entry g.row.D → ℕ = λ e. e.reference in
    let entries = c.args.entries.now in
    let ids : List ℕ = map id entries in
    let place = c.entries.place in
    let at = c.saturating_sub-at.result in
    let marks = c.entries.marks.items in
    let entry = c.index-entries-place.result in
    let below : place < length entries = omega (arith, c.entries-test.true, c.entries.auto.place-end) in
    let here : get_or ids place 0 ≡ id (get_or entries place entry) =
    get_or-map id entries place entry 0 below in
    let is : at ≡ get_or ids place 0 - c.ends_of-least.result.0 =
    c.saturating_sub-at.ensures ∙ ap (λ (n : ℕ). n - c.ends_of-least.result.0) (sym here) in
    let unmarked : get_or marks at false ≡ false =
    sym (subst (λ (b : Bool). b ≡ get_or marks at b) c.if-index.false c.index.ensures) in
    let within : at < length marks = omega (arith, c.if-at-len.false, c.len.ensures) in
    record {
      marked = marked_more ids c.ends_of-least.result.0 marks place at is within c.entries.invariant.marked;
      apart = apart_more ids c.ends_of-least.result.0 marks place at is unmarked c.entries.invariant.marked
          c.entries.invariant.apart;
    }

pub returns : goal.returns
returns g c = λ apart.
    let id : Entry g.row.D → ℕ = λ e. e.reference in
    let entries = c.args.entries.now in
    none_apart (map id entries)
    (subst (Apart (map id entries)) (omega (
      arith,
      length-map entries id,
      c.entries-test.false,
      c.entries.auto.place-end,
    )) c.entries.invariant.apart)
