-- The box is written where it lies, or the node is read and settled after it was asked for.
use Rattle.std.proofs.Common.{rules, ◌≡◌, ◌∙◌, IfSome, IsSome, List, None, Some, inl, inr, ⊎_elim}
use Rattle.std.proofs.Common.{map, refl, arith, subst, sym}
use Rattle.box_math.specs.Bounds.{Bounds}
use Rattle.page_file.specs.Fault.{IsOfDevice}
use Rattle.page_file.specs.declared.fault.Fault.TheVariants as fault
use Rattle.page_cache.specs.Cache.{pages}
use Rattle.page_cache.specs.Calls.{AsksUntil}
use Rattle.tree_node.specs.Boxes.{least_box}
use Rattle.tree_node.specs.Nodes.{Item, NodeContent}
use Rattle.tree_node.specs.Rows.{item_in}
use Rattle.node_bytes.specs.Enlarged.{set_box, with_box_at}
use Rattle.node_page.specs.Faults.{IsChangeFault, IsNoDamage}
use Rattle.node_page.specs.Standing.{PageMap, node_in}
use Rattle.node_bytes.proofs.BoxedLemmas.{length-set_box}
use Rattle.node_page.proofs.GivenLemmas.{given_node_is_live}
use Rattle.node_page.proofs.NodeLemmas.{at_error}
use Rattle.node_page.proofs.StandingLemmas.{page_of_node}
use Rattle.reinsert.specs.declared.settled.Settled.{Settled}
use Rattle.reinsert.proofs.AboveLemmas.{items_boxed, nothing_beside}
use Rattle.reinsert.proofs.FaultLemmas.{at_none, changes_refused, no_answer, no_success, one_more}
use Rattle.reinsert.proofs.PlaceLemmas.{settles_after_asking}
use Rattle.reinsert.proofs.SettledLemmas.{items_settled}
use Rattle.reinsert.proofs.place.put_above.Goals as goal

-- ---- the box is written

pub returns-in-Some : goal.returns-in-Some
returns-in-Some g c = record {
  changes = search rules;
  grows = search rules;
  measure = search rules;
  beside = search rules;
  settled = λ h items there branches are can.
      let D = g.row.D in
      let m : PageMap = pages c.args.cache.now in
      let m' : PageMap = pages c.enlarge_entry.new.cache in
      let page = c.args.at.page in
      let level = c.args.at.level in
      let lower = c.args.lower in
      let node : NodeContent = record { level = level; entries = items } in
      let after : List Item = set_box items c.args.place lower.bounds in
      let settled : Settled D = record { bounds = c.in-Some.bounds; beside = None } in
      let some : IsSome c.in_ok-bounds.field-0 = subst IsSome (sym c.in-Some.is) refl in
      let can_enlarge = (c.in_ok-bounds.ensures.room h.honest node there).0 some in
      let enlarged =
      subst (λ o. IfSome o
      (λ (b : Bounds). (node_in D (m' page) ≡ Some (with_box_at node c.args.place lower.bounds))
      × (b ≡ least_box D after))) c.in-Some.is (c.in_ok-bounds.ensures.enlarged h.honest node there) in
      let now : map item_in branches ≡ after =
      are ∙ items_boxed items c.args.place lower (nothing_beside lower.beside (sym c.is_some.ensures ∙ c.if-is_some.false)) in (
        c.in_ok-bounds.ensures.sound h can.live,
        items_settled c.args.limits.fanout.most c.args.limits.top level c.args.waiting.now.called branches
            after m
            m' page settled
            c.args.waiting.now.waits.items c.args.waiting.now.waits.items c.args.waiting.now.called
            now can (omega (
              arith,
              length-set_box items c.args.place lower.bounds,
              can_enlarge.few,
              c.entries-most.ensures,
            ))
            enlarged.1 refl refl refl enlarged.0 (c.in_ok-bounds.ensures.others h.honest can.live),
      );
  faults = λ h items there asked few. tt;
  sound = λ h.
      let old = c.args.cache.now in
      let page = c.args.at.page in
      let node = c.in_ok-bounds.ensures.given_node h.honest in
      c.in_ok-bounds.ensures.sound h
      (page_of_node g.row.D (pages old page) node.0 (given_node_is_live g.row.D old page node.0 h node.1));
  damaged = λ h. tt;
  other_faults = search rules;
}

-- ---- it was only asked for

pub put_anew-requires-2 : goal.put_anew-requires-2
put_anew-requires-2 g c =
    let asked : AsksUntil c.args.cache.now c.enlarge_entry.new.cache None =
    at_none c.in_ok-bounds.field-0 _ c.in_ok-bounds.ensures.cannot c.in_default.not-Some in (
      search rules,
      (
        search rules,
        (c.requires.top, c.requires.beside),
      ),
    )

pub returns : goal.returns
returns g c =
    settles_after_asking c.args.cache.now c.enlarge_entry.new.cache c.put_anew-2.new.cache c.put_anew-2.result
    (at_none c.in_ok-bounds.field-0 _ c.in_ok-bounds.ensures.cannot c.in_default.not-Some)
    c.put_anew-2.ensures

-- ---- it is refused

pub returns-in_err-bounds : goal.returns-in_err-bounds
returns-in_err-bounds g c = record {
  changes = changes_refused c.args.cache.now c.enlarge_entry.new.cache c.in_err-bounds.field-0.0
      c.from_residual.result c.from_residual.ensures.1 c.in_err-bounds.ensures.changes;
  grows = search rules;
  measure = search rules;
  beside = no_answer c.from_residual.result c.in_err-bounds.field-0.0 _ c.from_residual.ensures.1;
  settled = λ h items there branches are can. no_answer c.from_residual.result c.in_err-bounds.field-0.0 _
      c.from_residual.ensures.1;
  faults = λ h items there within few.
      let node : NodeContent = record { level = c.args.at.level; entries = items } in
      at_error c.from_residual.result c.in_err-bounds.field-0.0 (IsNoDamage c.enlarge_entry.new.cache)
      c.from_residual.ensures.1
      (inl (c.in_err-bounds.ensures.faults h.honest node there refl));
  sound = λ h. no_success c.from_residual.result c.in_err-bounds.field-0.0 _ c.from_residual.ensures.1;
  damaged = λ h.
      let f = c.in_err-bounds.field-0.0 in
      at_error c.from_residual.result f _
      c.from_residual.ensures.1
      (⊎_elim (λ (device : IsOfDevice f). inl (inl device)) (λ (is : f ≡ fault.Damaged c.args.at.page). inr
      is) (c.in_err-bounds.ensures.named h.honest));
  other_faults = at_error c.from_residual.result c.in_err-bounds.field-0.0 (IsChangeFault c.enlarge_entry.new.cache)
      c.from_residual.ensures.1 (one_more _ _ _ c.in_err-bounds.ensures.other_faults);
}
