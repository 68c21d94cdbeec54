-- One node more.
use Rattle.std.proofs.Common.{◌≡◌, ◌∙◌, ℕ, ◌+◌, ◌-◌, ◌<◌, None, Some, List, [], ◌∷◌, ◌++◌, length, map, take}
use Rattle.std.proofs.Common.{drop, get_or, All, refl, sym, ap, subst, arith, rules, length-append}
use Rattle.std.proofs.Common.{length-drop}
use Rattle.std.proofs.lemmas.List.{drop-drop, length-map, length-take-le, map-append}
use Rattle.std.proofs.lemmas.List.Elements.{All-append, All-cons, All-nil}
use Rattle.page_file.specs.declared.fault.Fault.TheVariants as fault
use Rattle.page_cache.specs.Cache.{IsPageMap, pages}
use Rattle.page_cache.specs.Calls.{changes_and_refuses, changes_in_turn, no_call_changes}
use Rattle.tree_node.specs.Boxes.{least_box}
use Rattle.tree_node.specs.Nodes.{Item, item_of, items_of}
use Rattle.tree_node.specs.Trees.{Branch}
use Rattle.tree_node.specs.declared.node.Entry.{Entry}
use Rattle.node_bytes.specs.Layout.{IsOfLevel}
use Rattle.node_page.specs.Standing.{node_in}
use Rattle.node_page.proofs.NodeLemmas.{at_error}
use Rattle.node_page.specs.Faults.{IsChangeFault, IsNoDamage}
use Rattle.bulk_load.specs.Levels.{WaitFor}
use Rattle.bulk_load.specs.Tiling.{joined}
use Rattle.bulk_load.proofs.CacheLemmas.{no_memory_changes}
use Rattle.bulk_load.proofs.LevelLemmas.{Written, all_written, first_run, one_run_more}
use Rattle.bulk_load.proofs.SizeLemmas.{part_items, part_refers, run_ends, run_within}
use Rattle.bulk_load.proofs.packing.write_level.Goals as goal

pub runs-init : goal.runs-init
runs-init g c = record {
  changes = no_call_changes c.args.cache.now;
  sound = λ map. map;
  grows = omega arith;
  here = refl;
  count = ap length c.requires.empty;
  refers =
      subst (λ (is : List Item). All (λ item. IsOfLevel (c.args.level + 1) item.reference item.tag) is)
      (sym (ap items_of c.requires.empty))
      (All-nil (λ (item : Item). IsOfLevel (c.args.level + 1) item.reference item.tag));
  written =
      λ map runs same waits. subst
      (λ (is : List Item). Written g.row.D c.args.level (pages c.args.cache.now) (pages c.args.cache.now)
      runs 0 (items_of c.args.entries.now) is)
      (sym (ap items_of c.requires.empty))
      (first_run g.row.D c.args.level (pages c.args.cache.now) runs (items_of c.args.entries.now) waits);
}

pub overflow_add-from : goal.overflow_add-from
overflow_add-from g c = let within = run_within c.args.sizes.now c.runs.place c.runs-test.true in
    omega (arith, within, c.runs.invariant.here, c.requires.whole)

pub offset_bounds-entries-from : goal.offset_bounds-entries-from
offset_bounds-entries-from g c = let within = run_within c.args.sizes.now c.runs.place c.runs-test.true in
    omega (arith, within, c.runs.invariant.here, c.requires.whole)

pub slice_bounds-write_parent-end : goal.slice_bounds-write_parent-end
slice_bounds-write_parent-end g c = let within = run_within c.args.sizes.now c.runs.place c.runs-test.true in
    omega (arith, within, c.runs.invariant.here, c.requires.whole)

pub write_parent-requires : goal.write_parent-requires
write_parent-requires g c =
    let size = get_or c.args.sizes.now c.runs.place 0 in
    let within = run_within c.args.sizes.now c.runs.place c.runs-test.true in
    let part : List (Entry g.row.D) =
    take (c.runs.from + size - c.runs.from) (drop c.runs.from c.args.entries.now) in
    let long : length part ≡ size =
    length-take-le (c.runs.from + size - c.runs.from) (drop c.runs.from c.args.entries.now)
    (omega (
      arith,
      length-drop c.runs.from c.args.entries.now,
      within,
      c.runs.invariant.here,
      c.requires.whole,
    )) ∙ omega arith in
    let sized = c.requires.sized c.runs.place 0 c.runs-test.true in (
      search rules,
      (
        c.requires.dims,
        (
          (omega (arith, long, sized.0), omega (arith, long, sized.1)),
          part_refers (λ (item : Item). IsOfLevel c.args.level item.reference item.tag)
              (c.runs.from + size - c.runs.from) c.runs.from c.args.entries.now c.requires.refers,
        ),
      ),
    )

pub returns-in_err-parent-clause-changes : goal.returns-in_err-parent-clause-changes
returns-in_err-parent-clause-changes g c =
    changes_and_refuses c.args.cache.now c.runs.cache c.write_parent.new.cache c.in_err-parent.field-0.0
    c.from_residual.result
    c.from_residual.ensures.1 c.runs.invariant.changes c.in_err-parent.ensures.changes

pub returns-in_err-parent-clause-sound : goal.returns-in_err-parent-clause-sound
returns-in_err-parent-clause-sound g c = λ map. c.write_parent.ensures.sound (c.runs.invariant.sound map)

pub returns-in_err-parent-clause-faults : goal.returns-in_err-parent-clause-faults
returns-in_err-parent-clause-faults g c =
    λ map. at_error c.from_residual.result c.in_err-parent.field-0.0 (IsNoDamage c.write_parent.new.cache)
    c.from_residual.ensures.1 (c.in_err-parent.ensures.faults (c.runs.invariant.sound map))

pub returns-in_err-parent-clause-other_faults : goal.returns-in_err-parent-clause-other_faults
returns-in_err-parent-clause-other_faults g c =
    at_error c.from_residual.result c.in_err-parent.field-0.0 (IsChangeFault c.write_parent.new.cache)
    c.from_residual.ensures.1
    c.in_err-parent.ensures.other_faults

pub returns-in_err-push-clause-changes : goal.returns-in_err-push-clause-changes
returns-in_err-push-clause-changes g c =
    changes_and_refuses c.args.cache.now c.write_parent.new.cache c.write_parent.new.cache fault.Memory
    c.from_residual-in_err-push.result
    c.from_residual-in_err-push.ensures.1
    (changes_in_turn c.args.cache.now c.runs.cache c.write_parent.new.cache None c.runs.invariant.changes
    c.in_ok-parent.ensures.changes)
    (no_memory_changes c.write_parent.new.cache)

pub returns-in_err-push-clause-sound : goal.returns-in_err-push-clause-sound
returns-in_err-push-clause-sound g c = λ map. c.write_parent.ensures.sound (c.runs.invariant.sound map)

pub overflow_add-from-in-runs : goal.overflow_add-from-in-runs
overflow_add-from-in-runs g c = let within = run_within c.args.sizes.now c.runs.place c.runs-test.true in
    omega (arith, within, c.runs.invariant.here, c.requires.whole)

next_written : (g : _) (c : goal.In_ok-push g) → IsPageMap c.args.cache.now → (runs : List (List Branch))
    → map (λ (run : List Branch). length run) runs ≡ c.args.sizes.now
    → WaitFor g.row.D c.args.level (pages c.args.cache.now) (items_of c.args.entries.now) (joined runs)
    → Written g.row.D c.args.level (pages c.args.cache.now) (pages c.write_parent.new.cache) runs
    (c.runs.place + 1)
    (drop (c.runs.from + get_or c.args.sizes.now c.runs.place 0) (items_of c.args.entries.now))
    (items_of c.push.new.self.items)
next_written g c sound runs same waits =
    let size = get_or c.args.sizes.now c.runs.place 0 in
    let all = items_of c.args.entries.now in
    let left = drop c.runs.from all in
    let parent = c.in_ok-parent.parent in
    let now_sound = c.runs.invariant.sound sound in
    let seen : items_of c.push.new.self.items ≡ items_of c.runs.parents.items ++ item_of parent ∷ [] =
    ap items_of c.in_ok-push.ensures.items ∙ map-append item_of c.runs.parents.items (parent ∷ []) in
    let part : items_of
    (take (c.runs.from + size - c.runs.from) (drop c.runs.from c.args.entries.now)) ≡ take size left =
    part_items (c.runs.from + size - c.runs.from) size c.runs.from c.args.entries.now (omega arith) in
    let below : c.runs.place < length runs =
    omega (
      arith,
      c.runs-test.true,
      ap length same,
      length-map runs (λ (run : List Branch). length run),
    ) in
    let more_than =
    one_run_more g.row.D c.args.level (pages c.args.cache.now) (pages c.runs.cache)
    (pages c.write_parent.new.cache) runs c.args.sizes.now c.runs.place size left
    (items_of c.runs.parents.items) parent.reference parent.bounds
    (c.runs.invariant.written sound runs same waits) same below refl
    (c.requires.sized c.runs.place 0 c.runs-test.true).0
    (c.in_ok-parent.ensures.fresh now_sound) (c.in_ok-parent.ensures.others now_sound)
    (subst (λ (is : List Item). node_in g.row.D (pages c.write_parent.new.cache parent.reference) ≡ Some
    (record { level = c.args.level; entries = is })) part (c.in_ok-parent.ensures.node now_sound))
    (c.in_ok-parent.ensures.least ∙ ap (least_box g.row.D) part) in
    let whole : (t : ℕ) → 0 ≡ t
    → Written g.row.D c.args.level (pages c.args.cache.now) (pages c.write_parent.new.cache) runs
    (c.runs.place + 1) (drop size left)
    (items_of c.runs.parents.items
    ++ record { bounds = parent.bounds; reference = parent.reference; tag = t } ∷ []) =
    λ t none. subst
    (λ (tag : ℕ). Written g.row.D c.args.level (pages c.args.cache.now) (pages c.write_parent.new.cache)
    runs (c.runs.place + 1) (drop size left)
    (items_of c.runs.parents.items
    ++ record { bounds = parent.bounds; reference = parent.reference; tag = tag } ∷ [])) none more_than in
    subst (λ (is : List Item). Written g.row.D c.args.level (pages c.args.cache.now)
    (pages c.write_parent.new.cache) runs (c.runs.place + 1) (drop (c.runs.from + size) all) is)
    (sym seen)
    (subst (λ (is : List Item). Written g.row.D c.args.level (pages c.args.cache.now)
    (pages c.write_parent.new.cache) runs (c.runs.place + 1) is
    (items_of c.runs.parents.items ++ item_of parent ∷ []))
    (drop-drop size c.runs.from all) (whole parent.tag (sym c.in_ok-parent.ensures.number.2)))

pub runs-preserved : goal.runs-preserved
runs-preserved g c =
    let P : Item → Type 0 = λ item. IsOfLevel (c.args.level + 1) item.reference item.tag in
    let seen : items_of c.push.new.self.items ≡ items_of c.runs.parents.items
    ++ item_of c.in_ok-parent.parent ∷ [] =
    ap items_of c.in_ok-push.ensures.items
    ∙ map-append item_of c.runs.parents.items (c.in_ok-parent.parent ∷ []) in
    record {
      changes =
          changes_in_turn c.args.cache.now c.runs.cache c.write_parent.new.cache None
          c.runs.invariant.changes c.in_ok-parent.ensures.changes;
      sound = λ map. c.write_parent.ensures.sound (c.runs.invariant.sound map);
      grows = omega (arith, c.runs.invariant.grows, c.write_parent.ensures.grows);
      here = omega (arith, c.runs.invariant.here, run_ends c.args.sizes.now c.runs.place c.runs-test.true);
      count = omega (
        arith,
        ap length c.in_ok-push.ensures.items,
        length-append c.runs.parents.items (c.in_ok-parent.parent ∷ []),
        c.runs.invariant.count,
      );
      refers =
          subst (λ (is : List Item). All P is) (sym seen)
          (All-append P (items_of c.runs.parents.items) (item_of c.in_ok-parent.parent ∷ [])
          c.runs.invariant.refers
          (All-cons P (item_of c.in_ok-parent.parent) [] (λ above. c.in_ok-parent.ensures.number)
          (All-nil P)));
      written = λ map runs same waits. next_written g c map runs same waits;
    }

pub returns-clause-written : goal.returns-clause-written
returns-clause-written g c =
    λ map runs same waits. all_written g.row.D c.args.level (pages c.args.cache.now) (pages c.runs.cache)
    runs c.runs.place (drop c.runs.from (items_of c.args.entries.now)) (items_of c.runs.parents.items)
    (c.runs.invariant.written map runs same waits)
    (omega (arith, c.runs-test.false, c.runs.auto.place-end, length-map runs length, ap length same))
