-- The goals of `insert_kept` that are proved by hand.
use Rattle.std.proofs.Common.{rules, ◌+◌, List, None, Ok, length, map, refl, ap, subst, arith}
use Rattle.std.proofs.Common.{inr, []}
use Rattle.page_file.specs.declared.fault.Fault.TheVariants as fault
use Rattle.page_cache.specs.Cache.{given, pages}
use Rattle.page_cache.specs.Calls.{changes_and_refuses, changes_in_turn, no_call_asks, no_call_changes}
use Rattle.tree_node.specs.declared.node.Root.{Root}
use Rattle.tree_node.specs.Nodes.{item_of}
use Rattle.tree_node.specs.Rows.{occurs_waiting}
use Rattle.node_page.specs.Faults.{IsNoDamage, NamesInRange}
use Rattle.node_page.specs.Standing.{PageMap}
use Rattle.node_page.proofs.DamageLemmas.{comes_in_range, damaged_read}
use Rattle.node_page.proofs.NodeLemmas.{at_error}
use Rattle.reinsert.specs.Placed.{Held}
use Rattle.condense.specs.Taken.{held_now, orphan_held}
use Rattle.condense.proofs.FillLemmas.{Filled, can_insert, comes, comes_shaped, filled_end, filled_first}
use Rattle.condense.proofs.FillLemmas.{filled_more}
use Rattle.condense.proofs.fill.insert_kept.Goals as goal

pub inserting-init : goal.inserting-init
inserting-init g c = (
  no_call_changes c.args.cache.now,
  c.requires.root,
  omega arith,
  omega arith,
  λ h t ws elsewhere can. (
    h,
    filled_first g.row.D c.args.fanout.most (pages c.args.cache.now) t ws elsewhere c.args.root
        (held_now c.args.kept.now) can,
  ),
  λ none. (none, refl, no_call_asks c.args.cache.now),
  λ h. h,
)

pub returns-then-orphan-now-clause-faults : goal.returns-then-orphan-now-clause-faults
returns-then-orphan-now-clause-faults g c = λ h t ws elsewhere can shaped.
    let D = g.row.D in
    let m : PageMap = pages c.args.cache.now in
    let m1 : PageMap = pages c.inserting.cache in
    let so_far = c.inserting.invariant.4 h t ws elsewhere can in
    let f = subst (λ (hs : List Held). Filled D c.args.fanout.most m m1 t ws elsewhere c.inserting.now hs)
    c.in-Some.ensures.some so_far.1 in
    let item = item_of c.in-Some.orphan.entry in
    let level = c.in-Some.orphan.level in
    let held = held_now c.next.new.self in
    let k = comes D c.args.fanout.most m m1 t ws elsewhere c.inserting.now item level held f in
    let s = comes_shaped D c.args.fanout.most m m1 t ws elsewhere c.inserting.now item level held f k shaped
    in
    absurd (omega (arith, s.0, f.can.at.level, c.if-orphan-now.true))

pub insert_with-requires : goal.insert_with-requires
insert_with-requires g c = (
  search rules,
  (
    search rules,
    (
      (omega (arith, c.if-orphan-now.false), c.inserting.invariant.1.low),
      (c.inserting.invariant.1.page, c.in-Some.ensures.refers),
    ),
  ),
)

pub returns-in_err-now-clause-faults : goal.returns-in_err-now-clause-faults
returns-in_err-now-clause-faults g c = λ h t ws elsewhere can shaped.
    let D = g.row.D in
    let m : PageMap = pages c.args.cache.now in
    let m1 : PageMap = pages c.inserting.cache in
    let so_far = c.inserting.invariant.4 h t ws elsewhere can in
    let f = subst (λ (hs : List Held). Filled D c.args.fanout.most m m1 t ws elsewhere c.inserting.now hs)
    c.in-Some.ensures.some so_far.1 in
    let item = item_of c.in-Some.orphan.entry in
    let level = c.in-Some.orphan.level in
    let held = held_now c.next.new.self in
    let k = comes D c.args.fanout.most m m1 t ws elsewhere c.inserting.now item level held f in
    let s = comes_shaped D c.args.fanout.most m m1 t ws elsewhere c.inserting.now item level held f k shaped
    in
    at_error c.from_residual.result c.in_err-now.field-0.0 (IsNoDamage c.insert_with.new.cache)
    c.from_residual.ensures.1
    (c.in_err-now.ensures.inserts.faults so_far.0 f.mid k.w.branch
    (λ n. occurs_waiting n k.ws' + elsewhere n)
    (can_insert D c.args.fanout.most m m1 t ws elsewhere c.inserting.now item level held f k
    (omega (arith, c.if-orphan-now.false))) s.1 s.2 s.3)

pub inserting-preserved : goal.inserting-preserved
inserting-preserved g c = (
  changes_in_turn c.args.cache.now c.inserting.cache c.insert_with.new.cache None c.inserting.invariant.0
      c.in_ok-now.ensures.inserts.changes,
  record { low = c.in_ok-now.ensures.inserts.root.low; page = c.in_ok-now.ensures.inserts.root.page },
  omega (arith, c.inserting.invariant.2, c.in-Some.ensures.fewer),
  omega (
    arith,
    c.inserting.invariant.2,
    c.inserting.invariant.3,
    c.in-Some.ensures.fewer,
    c.in_ok-now.ensures.inserts.grows,
  ),
  λ h t ws elsewhere can.
      let D = g.row.D in
      let m : PageMap = pages c.args.cache.now in
      let m1 : PageMap = pages c.inserting.cache in
      let so_far = c.inserting.invariant.4 h t ws elsewhere can in
      let f = subst (λ (hs : List Held). Filled D c.args.fanout.most m m1 t ws elsewhere c.inserting.now hs)
      c.in-Some.ensures.some so_far.1 in
      let item = item_of c.in-Some.orphan.entry in
      let level = c.in-Some.orphan.level in
      let held = held_now c.next.new.self in
      let k = comes D c.args.fanout.most m m1 t ws elsewhere c.inserting.now item level held f in
      let done =
      c.in_ok-now.ensures.inserts.inserted so_far.0 f.mid k.w.branch
      (λ n. occurs_waiting n k.ws' + elsewhere n)
      (can_insert D c.args.fanout.most m m1 t ws elsewhere c.inserting.now item level held f k
      (omega (arith, c.if-orphan-now.false))) in (
        done.0,
        filled_more D c.args.fanout.most m m1 t ws elsewhere c.inserting.now item level held f k
            (pages c.insert_with.new.cache) c.in_ok-now.now c.in_ok-now.ensures.inserts.root.rises
            (omega (arith, c.args.fanout.within)) done.1,
      ),
  λ none. absurd (omega (arith, c.in-Some.ensures.fewer, ap length (c.inserting.invariant.5 none).0)),
  λ h. c.in_ok-now.ensures.inserts.sound (c.inserting.invariant.6 h),
)

pub returns-clause-filled : goal.returns-clause-filled
returns-clause-filled g c = λ h t ws elsewhere can.
    let so_far = c.inserting.invariant.4 h t ws elsewhere can in (
      so_far.0,
      filled_end g.row.D c.args.fanout.most (pages c.args.cache.now) (pages c.inserting.cache) t ws elsewhere
          c.inserting.now (held_now c.inserting.kept) so_far.1
          (ap (map (orphan_held {D = g.row.D})) (c.in_default.ensures.none refl)),
    )

pub returns-in_err-now-clause-changes : goal.returns-in_err-now-clause-changes
returns-in_err-now-clause-changes g c =
    changes_and_refuses c.args.cache.now c.inserting.cache c.insert_with.new.cache
    c.in_err-now.field-0.0 c.from_residual.result c.from_residual.ensures.1
    c.inserting.invariant.0 c.in_err-now.ensures.inserts.changes

pub returns-then-orphan-now-clause-none : goal.returns-then-orphan-now-clause-none
returns-then-orphan-now-clause-none g c = λ none.
    absurd (omega (arith, c.in-Some.ensures.fewer, ap length (c.inserting.invariant.5 none).0))

pub returns-in_err-now-clause-none : goal.returns-in_err-now-clause-none
returns-in_err-now-clause-none g c = λ none.
    absurd (omega (arith, c.in-Some.ensures.fewer, ap length (c.inserting.invariant.5 none).0))

pub returns-clause-none : goal.returns-clause-none
returns-clause-none g c = λ none.
    let so_far = c.inserting.invariant.5 none in (ap (λ (root : Root). Ok root) so_far.1, so_far.2)

pub returns-then-orphan-now-clause-number : goal.returns-then-orphan-now-clause-number
returns-then-orphan-now-clause-number g c = λ h n damaged.
    let page = c.inserting.now.page in
    comes_in_range g.row.D (given c.inserting.cache) page n c.inserting.invariant.1.page
    ([], damaged_read (fault.Damaged page) page n (inr refl) damaged)

pub returns-in_err-now-clause-number : goal.returns-in_err-now-clause-number
returns-in_err-now-clause-number g c = λ h.
    at_error c.from_residual.result c.in_err-now.field-0.0 NamesInRange
    c.from_residual.ensures.1 (c.in_err-now.ensures.inserts.number (c.inserting.invariant.6 h))

pub returns-clause-sound : goal.returns-clause-sound
returns-clause-sound g c = c.inserting.invariant.6
