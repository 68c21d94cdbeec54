-- The goals of `keep` that are proved by hand.
use Rattle.std.proofs.Common.{rules, ◌≡◌, ◌∙◌, ◌-◌, ℕ, arith, ap, subst, sym, get_or, length, All, [], ◌∷◌}
use Rattle.std.proofs.lemmas.List.Elements.{All-append}
use Rattle.tree_node.specs.declared.node.Entry.{Entry}
use Rattle.node_bytes.specs.Layout.{IsOfLevel}
use Rattle.reinsert.proofs.WaitLemmas.{All-one}
use Rattle.condense.specs.declared.kept.Orphan.{Orphan}
use Rattle.condense.proofs.KeptLemmas.{held_more}
use Rattle.condense.proofs.kept.Orphans.keep.Goals as goal

pub push-requires : goal.push-requires
push-requires g c = (
  search rules,
  omega (
    arith,
    c.loop-passed.invariant.1,
    c.requires.room,
    c.len-passed-end.ensures.value,
    c.loop-passed-test.true,
  ),
)

pub invariant_of-self : goal.invariant_of-self
invariant_of-self g c =
    let entries = c.args.entries.now.items in
    let e = c.index-deref-len.result in
    let at = length entries - 1 - c.loop-passed.passed in
    let this : e ≡ get_or entries at e =
    c.index-deref-len.is ∙ ap (λ xs. get_or xs (c.len.result - 1 - c.loop-passed.passed) e) c.deref.ensures.0
    ∙ ap (λ (n : ℕ). get_or entries (n - 1 - c.loop-passed.passed) e) c.len.ensures.value in
    let P : Orphan g.row.D → Type 0 = λ o. IsOfLevel o.level o.entry.reference o.entry.tag in
    let one : IsOfLevel c.args.level e.reference e.tag =
    subst (λ (x : Entry g.row.D). IsOfLevel c.args.level x.reference x.tag) (sym this)
    (c.requires.refers at e (omega (arith, c.loop-passed-test.true, c.len-passed-end.ensures.value))) in
    record {
      dims = c.loop-passed.self.dims;
      refers = subst (λ xs. All P xs) (sym c.push.ensures.items)
          (All-append P c.loop-passed.self.list.items (record { entry = e; level = c.args.level } ∷ [])
          c.loop-passed.self.refers (All-one P (record { entry = e; level = c.args.level }) one));
    }

pub loop-passed-preserved : goal.loop-passed-preserved
loop-passed-preserved g c =
    let entries = c.args.entries.now.items in
    let e = c.index-deref-len.result in
    let this : e ≡ get_or entries (length entries - 1 - c.loop-passed.passed) e =
    c.index-deref-len.is ∙ ap (λ xs. get_or xs (c.len.result - 1 - c.loop-passed.passed) e) c.deref.ensures.0
    ∙ ap (λ (n : ℕ). get_or entries (n - 1 - c.loop-passed.passed) e) c.len.ensures.value in (
      held_more c.args.self.now.list.items c.loop-passed.self.list.items c.push.new.self.items entries
          c.args.level c.loop-passed.passed e
          c.loop-passed.invariant.0 c.push.ensures.items
          (omega (arith, c.loop-passed-test.true, c.len-passed-end.ensures.value)) this,
      omega (arith, c.push.ensures.len, c.loop-passed.invariant.1),
    )
