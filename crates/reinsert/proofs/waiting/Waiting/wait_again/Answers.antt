-- The goals of `wait_again` that are proved by hand.
use Rattle.std.proofs.Common.{rules, ◌≡◌, ◌∙◌, ◌-◌, ℕ, arith, ap, subst, sym, get_or, length, All, [], ◌∷◌}
use Rattle.std.proofs.Common.{◌++◌, map, reverse, take}
use Rattle.std.proofs.lemmas.List.{length-append, length-map, length-reverse, take_all}
use Rattle.std.proofs.lemmas.List.Elements.{All-append}
use Rattle.tree_node.specs.declared.node.Entry.{Entry}
use Rattle.node_bytes.specs.Layout.{IsOfLevel}
use Rattle.reinsert.specs.declared.waiting.Wait.{Wait}
use Rattle.reinsert.specs.Called.{free_levels}
use Rattle.reinsert.specs.Placed.{held_of, held_with}
use Rattle.reinsert.proofs.CalledLemmas.{free_levels_le, free_levels_fall}
use Rattle.reinsert.proofs.WaitLemmas.{All-one, held_more}
use Rattle.reinsert.proofs.waiting.Waiting.wait_again.Goals as goal

pub invariant_of-self-clause-room : goal.invariant_of-self-clause-room
invariant_of-self-clause-room g c =
    omega (arith, free_levels_le c.args.self.now.called c.from.result, c.args.self.now.room)

-- with the far set that a level gives there is room for one entry more
pub push-requires : goal.push-requires
push-requires g c =
    let free = ap free_levels c.loop-passed.invariant.2 in (
      search rules,
      omega (
        arith,
        free,
        free_levels_fall c.args.self.now.called c.args.level c.requires.first,
        c.args.self.now.room,
        c.loop-passed.invariant.1,
        c.requires.few,
        c.len-passed-end.ensures.value,
        c.loop-passed-test.true,
      ),
    )

pub invariant_of-self-in-loop-passed-clause-room : goal.invariant_of-self-in-loop-passed-clause-room
invariant_of-self-in-loop-passed-clause-room g c =
    let free = ap free_levels c.loop-passed.invariant.2 in
    omega (
      arith,
      free,
      free_levels_fall c.args.self.now.called c.args.level c.requires.first,
      c.args.self.now.room,
      c.loop-passed.invariant.1,
      c.requires.few,
      c.len-passed-end.ensures.value,
      c.loop-passed-test.true,
      ap length c.push.ensures.items,
      length-append c.loop-passed.self.waits.items
          (record { entry = c.index-deref-len.result; level = c.args.level } ∷ []),
    )

pub invariant_of-self-in-loop-passed-clause-refers : goal.invariant_of-self-in-loop-passed-clause-refers
invariant_of-self-in-loop-passed-clause-refers g c =
    let far = c.args.far.now.items in
    let e = c.index-deref-len.result in
    let at = length far - 1 - c.loop-passed.passed in
    let this : e ≡ get_or far at e =
    c.index-deref-len.is ∙ ap (λ xs. get_or xs (c.len.result - 1 - c.loop-passed.passed) e) c.deref.ensures.0
    ∙ ap (λ (n : ℕ). get_or far (n - 1 - c.loop-passed.passed) e) c.len.ensures.value in
    let P : Wait g.row.D → Type 0 = λ w. IsOfLevel w.level w.entry.reference w.entry.tag in
    let one : IsOfLevel c.args.level e.reference e.tag =
    subst (λ (x : Entry g.row.D). IsOfLevel c.args.level x.reference x.tag) (sym this)
    (c.requires.refers at e (omega (arith, c.loop-passed-test.true, c.len-passed-end.ensures.value))) in
    subst (λ xs. All P xs) (sym c.push.ensures.items)
    (All-append P c.loop-passed.self.waits.items (record { entry = e; level = c.args.level } ∷ [])
    c.loop-passed.self.refers (All-one P (record { entry = e; level = c.args.level }) one))

pub returns-clause-waits : goal.returns-clause-waits
returns-clause-waits g c =
    let held = map (held_with c.args.level) c.args.far.now.items in
    let whole : take c.loop-passed.passed (reverse held) ≡ reverse held =
    take_all c.loop-passed.passed (reverse held)
    (omega (
      arith,
      length-reverse held,
      length-map c.args.far.now.items (held_with c.args.level),
      c.len-passed-end.ensures.value,
      c.loop-passed.auto.passed-end,
      c.loop-passed-test.false,
    )) in
    c.loop-passed.invariant.0 ∙ ap (λ xs. map held_of c.args.self.now.waits.items ++ xs) whole

pub returns-clause-measure : goal.returns-clause-measure
returns-clause-measure g c =
    let free = ap free_levels c.loop-passed.invariant.2 in
    omega (
      arith,
      free,
      free_levels_fall c.args.self.now.called c.args.level c.requires.first,
      c.loop-passed.invariant.1,
      c.requires.few,
      c.len-passed-end.ensures.value,
      c.loop-passed.auto.passed-end,
    )

pub loop-passed-preserved : goal.loop-passed-preserved
loop-passed-preserved g c =
    let far = c.args.far.now.items in
    let e = c.index-deref-len.result in
    let this : e ≡ get_or far (length far - 1 - c.loop-passed.passed) e =
    c.index-deref-len.is ∙ ap (λ xs. get_or xs (c.len.result - 1 - c.loop-passed.passed) e) c.deref.ensures.0
    ∙ ap (λ (n : ℕ). get_or far (n - 1 - c.loop-passed.passed) e) c.len.ensures.value in (
      held_more c.args.self.now.waits.items c.loop-passed.self.waits.items c.push.new.self.items far
          c.args.level c.loop-passed.passed e
          c.loop-passed.invariant.0 c.push.ensures.items
          (omega (arith, c.loop-passed-test.true, c.len-passed-end.ensures.value)) this,
      omega (
        arith,
        ap length c.push.ensures.items,
        length-append c.loop-passed.self.waits.items (record { entry = e; level = c.args.level } ∷ []),
        c.loop-passed.invariant.1,
      ),
      c.loop-passed.invariant.2,
    )
