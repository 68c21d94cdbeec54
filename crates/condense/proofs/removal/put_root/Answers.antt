-- The goals of `put_root` that are proved by hand.
use Rattle.std.proofs.Common.{None, length, inl, sym, ap, subst, arith, ◌<◌, ◌≤◌}
use Rattle.std.proofs.Common.{◌≡◌, ◌∙◌, [], ⊎_elim, IfErr, false, refl, true}
use Rattle.std.proofs.lemmas.Bool.{true≢false}
use Rattle.std.specs.Prelude.{◌⊎◌}
use Rattle.std.proofs.lemmas.List.{length-map}
use Rattle.arrayvec.specs.ArrayVec.{array_vec_len}
use Rattle.page_file.specs.Fault.{IsDamage, IsOfDevice}
use Rattle.page_file.specs.declared.fault.Fault.TheVariants.{Damaged}
use Rattle.page_cache.specs.Cache.{IsPageMap, given, pages, touched_of}
use Rattle.page_cache.specs.Calls.{changes_and_refuses, changes_in_turn, fault_in}
use Rattle.tree_node.specs.declared.node.Root.{Root}
use Rattle.tree_node.specs.Nodes.{item_of}
use Rattle.node_page.specs.Standing.{PageMap}
use Rattle.node_page.specs.Faults.{IsChangeFault, IsNoDamage, NamesInRange}
use Rattle.reinsert.proofs.FaultLemmas.{one_more}
use Rattle.condense.specs.Filled.{GivesWayTo}
use Rattle.condense.specs.Removed.{RemovesTo}
use Rattle.condense.specs.Taken.{held_now}
use Rattle.condense.proofs.BecomeLemmas.{root_written}
use Rattle.condense.proofs.CutLemmas.{length-items}
use Rattle.node_page.proofs.DamageLemmas.{comes_in_range, damaged_read}
use Rattle.node_page.proofs.NodeLemmas.{at_error}
use Rattle.condense.proofs.RemoveLemmas.{map_err, map_ok, no_damage}
use Rattle.condense.proofs.RootLemmas.{can_fill, cut_root, removes_to}
use Rattle.condense.proofs.ShapeLemmas.{cut_shaped}
use Rattle.condense.proofs.removal.put_root.Goals as goal

pub returns-in_err-write_root-clause-faults : goal.returns-in_err-write_root-clause-faults
returns-in_err-write_root-clause-faults g c =
    λ h live m m1 t elsewhere id removed items took others is shape boxes.
    let node = c.args.hand.now.node in
    let s = cut_shaped g.row.D c.args.fanout.most id removed t took.taken.out shape boxes took.taken.takes_out
    in
    let some : c.args.hand.now.settled ≡ false → 0 < c.args.root.level → 1 ≤ array_vec_len node.entries =
    λ unwritten high.
    let many = s.tree.some (omega (arith, high, took.can.at.level)) in
    omega (
      arith,
      many,
      ap length took.taken.entries,
      ap length (is.1 unwritten),
      length-map node.entries.items (item_of {D = g.row.D}),
      length-items took.taken.out.row,
    ) in
    at_error c.from_residual.result c.in_err-write_root.field-0.0 (IsNoDamage c.write_root.new.cache)
    c.from_residual.ensures.1 (inl (c.in_err-write_root.ensures.faults h.honest live some))

pub returns-in_err-write_root-clause-damage : goal.returns-in_err-write_root-clause-damage
returns-in_err-write_root-clause-damage g c = λ h live either none.
    at_error c.from_residual.result c.in_err-write_root.field-0.0
    (λ f. IsOfDevice f ⊎ (f ≡ Damaged c.args.root.page)) c.from_residual.ensures.1
    (c.in_err-write_root.ensures.named h.honest live)

pub returns-in_err-write_root-clause-number : goal.returns-in_err-write_root-clause-number
returns-in_err-write_root-clause-number g c = λ h live.
    let page = c.args.root.page in
    let f = c.in_err-write_root.field-0.0 in
    at_error c.from_residual.result f NamesInRange c.from_residual.ensures.1
    (λ n damaged. comes_in_range g.row.D (given c.args.cache.now) page n c.requires.root.page
    ([], damaged_read f page n (c.in_err-write_root.ensures.named h.honest live) damaged))

pub returns-in_err-write_root-clause-other_faults : goal.returns-in_err-write_root-clause-other_faults
returns-in_err-write_root-clause-other_faults g c =
    at_error c.from_residual.result c.in_err-write_root.field-0.0 (IsChangeFault c.write_root.new.cache)
    c.from_residual.ensures.1
    (one_more _ _ _ c.in_err-write_root.ensures.other_faults)

pub returns-in_err-filled-clause-changes : goal.returns-in_err-filled-clause-changes
returns-in_err-filled-clause-changes g c =
    changes_and_refuses c.args.cache.now c.write_root.new.cache c.insert_kept.new.cache
    c.in_err-filled.field-0.0 c.from_residual-in_err-filled.result c.from_residual-in_err-filled.ensures.1
    c.in_ok-write_root.ensures.changes c.in_err-filled.ensures.changes

pub returns-in_err-filled-clause-faults : goal.returns-in_err-filled-clause-faults
returns-in_err-filled-clause-faults g c =
    λ h live m m1 t elsewhere id removed items took others is shape boxes.
    let D = g.row.D in
    let root = c.args.root in
    let m2 : PageMap = pages c.write_root.new.cache in
    let held = held_now c.args.kept.now in
    let write = c.in_ok-write_root.ensures in
    let there =
    root_written root (pages c.args.cache.now) m2 items c.args.hand.now is (write.stays h.honest)
    (λ unwritten. (c.requires.cut unwritten).level_is) (λ unwritten. write.written h live unwritten) in
    let can =
    can_fill D c.args.fanout.most m m1 root t elsewhere id removed held items took m2 root.level refl there
    (λ k other. write.others h.honest live k other ∙ others k other) in
    let s = cut_shaped D c.args.fanout.most id removed t took.taken.out shape boxes took.taken.takes_out in
    at_error c.from_residual-in_err-filled.result c.in_err-filled.field-0.0
    (IsNoDamage c.insert_kept.new.cache) c.from_residual-in_err-filled.ensures.1
    (c.in_err-filled.ensures.faults (write.sound h live) (cut_root took) took.taken.out.kept elsewhere can s)

pub returns-clause-removed : goal.returns-clause-removed
returns-clause-removed g c = λ h live m m1 t elsewhere id removed items took others is.
    let D = g.row.D in
    let root = c.args.root in
    let m2 : PageMap = pages c.write_root.new.cache in
    let held = held_now c.args.kept.now in
    let write = c.in_ok-write_root.ensures in
    let there =
    root_written root (pages c.args.cache.now) m2 items c.args.hand.now is (write.stays h.honest)
    (λ unwritten. (c.requires.cut unwritten).level_is) (λ unwritten. write.written h live unwritten) in
    let can =
    can_fill D c.args.fanout.most m m1 root t elsewhere id removed held items took m2 root.level refl there
    (λ k other. write.others h.honest live k other ∙ others k other) in
    let filled =
    c.in_ok-filled.ensures.filled (write.sound h live) (cut_root took) took.taken.out.kept elsewhere can in
    map_ok c.give_way.result (IsPageMap c.give_way.new.cache)
    (GivesWayTo D (pages c.insert_kept.new.cache) (pages c.give_way.new.cache) filled.1.new)
    (RemovesTo D c.args.fanout.most m (pages c.give_way.new.cache) elsewhere id removed t)
    (c.give_way.ensures.lowered filled.0 filled.1.new filled.1.at filled.1.stands)
    (λ after gives. removes_to D c.args.fanout.most m m1 root t elsewhere id removed held items took m2
    root.level
    refl there (λ k other. write.others h.honest live k other ∙ others k other)
    (pages c.insert_kept.new.cache) (pages c.give_way.new.cache) c.in_ok-filled.filled after filled.1 gives)

pub returns-clause-faults : goal.returns-clause-faults
returns-clause-faults g c = λ h live m m1 t elsewhere id removed items took others is shape boxes.
    let D = g.row.D in
    let root = c.args.root in
    let m2 : PageMap = pages c.write_root.new.cache in
    let held = held_now c.args.kept.now in
    let write = c.in_ok-write_root.ensures in
    let there =
    root_written root (pages c.args.cache.now) m2 items c.args.hand.now is (write.stays h.honest)
    (λ unwritten. (c.requires.cut unwritten).level_is) (λ unwritten. write.written h live unwritten) in
    let can =
    can_fill D c.args.fanout.most m m1 root t elsewhere id removed held items took m2 root.level refl there
    (λ k other. write.others h.honest live k other ∙ others k other) in
    let filled =
    c.in_ok-filled.ensures.filled (write.sound h live) (cut_root took) took.taken.out.kept elsewhere can in
    no_damage c.give_way.result (IsNoDamage c.give_way.new.cache)
    (c.give_way.ensures.faults filled.0 filled.1.new filled.1.at filled.1.stands) (λ f is. inl is)

pub returns-clause-changes : goal.returns-clause-changes
returns-clause-changes g c =
    let so_far =
    changes_in_turn c.args.cache.now c.write_root.new.cache c.insert_kept.new.cache None
    c.in_ok-write_root.ensures.changes c.in_ok-filled.ensures.changes in
    changes_in_turn c.args.cache.now c.insert_kept.new.cache c.give_way.new.cache
    (fault_in c.give_way.result) so_far c.give_way.ensures.changes

pub returns-clause-other_faults : goal.returns-clause-other_faults
returns-clause-other_faults g c =
    map_err c.give_way.result (λ f. IsOfDevice f ⊎ IsDamage f) (IsChangeFault c.give_way.new.cache)
    c.give_way.ensures.other_faults
    (λ f is. one_more _ _ _ is)

-- ---- in any pages, of which none was touched

pub returns-in_err-filled-clause-damage : goal.returns-in_err-filled-clause-damage
returns-in_err-filled-clause-damage g c = λ h live either none.
    ⊎_elim
    (λ (empty : c.args.kept.now.list.items ≡ []).
    let is = (c.in_err-filled.ensures.none empty).0 in absurd (cc))
    (λ (touched : touched_of c.args.cache.now ≡ true).
    let still =
    c.in_err-filled.ensures.changes.touched (c.in_ok-write_root.ensures.changes.touched touched) in
    absurd (true≢false (sym still ∙ none)))
    either

pub returns-clause-damage : goal.returns-clause-damage
returns-clause-damage g c = λ h live either none.
    let honest =
    c.in_ok-filled.ensures.changes.honest.0
    (c.in_ok-write_root.ensures.changes.honest.0 h.honest) in
    ⊎_elim
    (λ (empty : c.args.kept.now.list.items ≡ []).
    let is = (c.in_ok-filled.ensures.none empty).0 in
    let same : c.in_ok-filled.filled ≡ c.args.root = cc in
    subst (λ (root : Root). IfErr c.give_way.result (λ f. IsOfDevice f ⊎ (f ≡ Damaged root.page))) same
    (c.give_way.ensures.untouched honest none))
    (λ (touched : touched_of c.args.cache.now ≡ true).
    let still =
    c.give_way.ensures.changes.touched
    (c.in_ok-filled.ensures.changes.touched (c.in_ok-write_root.ensures.changes.touched touched)) in
    absurd (true≢false (sym still ∙ none)))
    either

-- ---- in any pages

pub returns-in_err-filled-clause-number : goal.returns-in_err-filled-clause-number
returns-in_err-filled-clause-number g c = λ h live.
    at_error c.from_residual-in_err-filled.result c.in_err-filled.field-0.0 NamesInRange
    c.from_residual-in_err-filled.ensures.1
    (c.in_err-filled.ensures.number (c.in_ok-write_root.ensures.sound h live))

pub returns-clause-number : goal.returns-clause-number
returns-clause-number g c = λ h live.
    c.give_way.ensures.number (c.in_ok-filled.ensures.sound (c.in_ok-write_root.ensures.sound h live))
