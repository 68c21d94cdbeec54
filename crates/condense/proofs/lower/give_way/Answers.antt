-- The goals of `give_way` that are proved by hand.
use Rattle.std.proofs.Common.{◌∙◌, ◌⊎◌, ⊎_elim, inl, inr, IsSome, [], sym, true}
use Rattle.std.proofs.Common.{◌≡◌, ◌-◌, ◌<◌, ◌≤◌, ◌^◌, IfSome, None, Some, length, get_or, refl, subst, arith}
use Rattle.std.proofs.lemmas.Bool.{true≢false}
use Rattle.page_file.specs.Fault.{IsOfDevice}
use Rattle.page_file.specs.declared.fault.Fault.TheVariants as fault
use Rattle.page_cache.specs.Cache.{given, next_of, pages, touched_of}
use Rattle.page_cache.specs.Calls.{asks_changes, changes_and_refuses, changes_in_turn, no_call_changes}
use Rattle.tree_node.specs.declared.node.Root.{Root}
use Rattle.tree_node.specs.Nodes.{Item, NodeContent}
use Rattle.tree_node.specs.Trees.{row_items}
use Rattle.node_page.specs.Faults.{NamesInRange}
use Rattle.node_page.specs.Standing.{PageMap}
use Rattle.reinsert.proofs.FaultLemmas.{at_none}
use Rattle.condense.proofs.CutLemmas.{length-items}
use Rattle.node_page.proofs.DamageLemmas.{comes_in_range, damaged_read}
use Rattle.node_page.proofs.GivenLemmas.{given_node_is_live, node_was_given_out}
use Rattle.node_page.proofs.NodeLemmas.{at_error}
use Rattle.node_page.proofs.StandingLemmas.{page_of_node}
use Rattle.condense.proofs.DamageLemmas.{device_names_none}
use Rattle.condense.proofs.LowerLemmas.{lowered_end, lowered_first, lowered_more, lowered_same}
use Rattle.condense.proofs.LowerLemmas.{root_is_live, root_node}
use Rattle.condense.proofs.lower.give_way.Goals as goal

pub lowering-init : goal.lowering-init
lowering-init g c = (
  no_call_changes c.args.cache.now,
  c.requires.root,
  omega arith,
  λ h t at stands. (h, lowered_first g.row.D (pages c.args.cache.now) t c.args.root at stands),
  λ h. inl refl,
  λ h. h,
)

pub returns-in_err-below-clause-faults : goal.returns-in_err-below-clause-faults
returns-in_err-below-clause-faults g c = λ h t at stands.
    let so_far = c.lowering.invariant.3 h t at stands in
    let m0 : PageMap = pages c.lowering.cache in
    let content : NodeContent = record { level = so_far.1.mid.level; entries = row_items so_far.1.mid.row } in
    at_error c.from_residual.result c.in_err-below.field-0.0 IsOfDevice c.from_residual.ensures.1
    (c.in_err-below.ensures.there so_far.0.honest content
    (root_node g.row.D (pages c.args.cache.now) m0 m0 t c.lowering.now so_far.1 (λ n. refl))
    so_far.1.at.level)

pub returns-in_err-free-clause-faults : goal.returns-in_err-free-clause-faults
returns-in_err-free-clause-faults g c = λ h t at stands.
    let so_far = c.lowering.invariant.3 h t at stands in
    let m : PageMap = pages c.args.cache.now in
    let l = lowered_same g.row.D m (pages c.lowering.cache) (pages c.only_child.new.cache) t c.lowering.now
    (c.in_ok-below.ensures.asks.map.pages_stay so_far.0.honest) so_far.1 in
    at_error c.from_residual-in_err-free.result c.in_err-free.field-0.0 IsOfDevice
    c.from_residual-in_err-free.ensures.1
    (c.in_err-free.ensures.faults (c.in_ok-below.ensures.asks.map.sound.0 so_far.0)
    (root_is_live g.row.D m (pages c.only_child.new.cache) t c.lowering.now l)
    (λ two. omega (arith, two, c.lowering.invariant.1.page)))

pub returns-in_default-clause-lowered : goal.returns-in_default-clause-lowered
returns-in_default-clause-lowered g c = λ h t at stands.
    let so_far = c.lowering.invariant.3 h t at stands in
    let m : PageMap = pages c.args.cache.now in
    let m0 : PageMap = pages c.lowering.cache in
    let m1 : PageMap = pages c.only_child.new.cache in
    let same = c.in_ok-below.ensures.asks.map.pages_stay so_far.0.honest in
    let l = lowered_same g.row.D m m0 m1 t c.lowering.now same so_far.1 in
    let content : NodeContent = record { level = l.mid.level; entries = row_items l.mid.row } in (
      c.in_ok-below.ensures.asks.map.sound.0 so_far.0,
      lowered_end g.row.D m m1 t c.lowering.now l (λ high one.
          at_none c.in_ok-below.field-0 _
          (c.in_ok-below.ensures.several so_far.0.honest content
          (root_node g.row.D m m0 m1 t c.lowering.now l same)) c.in_default.not-Some
          (omega (arith, one, length-items l.mid.row))),
    )

pub lowering-preserved : goal.lowering-preserved
lowering-preserved g c =
    let down =
    subst (λ o. IfSome o
    (λ below. (below.level ≡ c.lowering.now.level - 1) × (3 ≤ below.page) × (below.page < 2 ^ 31)))
    c.in-Some.is c.in_ok-below.ensures.root in (
      changes_in_turn c.args.cache.now c.lowering.cache c.free.new.self None c.lowering.invariant.0
          (changes_in_turn c.lowering.cache c.only_child.new.cache c.free.new.self None
          (asks_changes c.lowering.cache c.only_child.new.cache None c.in_ok-below.ensures.asks)
          c.in_ok-free.ensures.changes),
      record { low = omega (arith, c.lowering.invariant.1.low, down.0); page = (down.1, down.2) },
      omega (
        arith,
        c.lowering.invariant.2,
        c.in_ok-below.ensures.asks.map.next,
        c.in_ok-below.ensures.asks.map.free_count,
        c.in_ok-free.ensures.grows,
      ),
      λ h t at stands.
          let so_far = c.lowering.invariant.3 h t at stands in
          let m : PageMap = pages c.args.cache.now in
          let m0 : PageMap = pages c.lowering.cache in
          let m1 : PageMap = pages c.only_child.new.cache in
          let same = c.in_ok-below.ensures.asks.map.pages_stay so_far.0.honest in
          let l = lowered_same g.row.D m m0 m1 t c.lowering.now same so_far.1 in
          let content : NodeContent = record { level = l.mid.level; entries = row_items l.mid.row } in
          let only =
          subst (λ o. IfSome o
          (λ below. (length (row_items l.mid.row) ≡ 1)
          × ((d : Item) → below.page ≡ (get_or (row_items l.mid.row) 0 d).reference))) c.in-Some.is
          (c.in_ok-below.ensures.child so_far.0.honest content
          (root_node g.row.D m m0 m1 t c.lowering.now l same)) in
          let sound = c.in_ok-below.ensures.asks.map.sound.0 so_far.0 in
          let live = root_is_live g.row.D m m1 t c.lowering.now l in (
            c.in_ok-free.ensures.sound sound live,
            lowered_more m m1 (pages c.free.new.self) t c.lowering.now c.in-Some.below l
                (omega (arith, c.lowering-test.true)) only.0 only.1 down.0
                (c.in_ok-free.ensures.others sound.honest live)
                (c.in_ok-free.ensures.freed sound.honest live),
          ),
      λ h. inr c.in_ok-free.ensures.touched,
      λ h. let map = c.lowering.invariant.5 h in
          let page = c.lowering.now.page in
          let asks = c.in_ok-below.ensures.asks in
          let node = c.in_ok-below.ensures.given_node map.honest in
          let there = given_node_is_live g.row.D c.lowering.cache page node.0 map node.1 in
          c.in_ok-free.ensures.sound (asks.map.sound.0 map)
          (subst IsSome (sym (asks.map.pages_stay map.honest page))
          (page_of_node g.row.D (pages c.lowering.cache page) node.0 there)),
    )

pub returns-after-lowering-clause-lowered : goal.returns-after-lowering-clause-lowered
returns-after-lowering-clause-lowered g c = λ h t at stands.
    let so_far = c.lowering.invariant.3 h t at stands in (
      so_far.0,
      lowered_end g.row.D (pages c.args.cache.now) (pages c.lowering.cache) t c.lowering.now so_far.1
          (λ high. absurd (omega (arith, high, c.lowering-test.false))),
    )

pub returns-in_err-below-clause-changes : goal.returns-in_err-below-clause-changes
returns-in_err-below-clause-changes g c =
    let f = c.in_err-below.field-0.0 in
    changes_and_refuses c.args.cache.now c.lowering.cache c.only_child.new.cache f c.from_residual.result
    c.from_residual.ensures.1 c.lowering.invariant.0
    (asks_changes c.lowering.cache c.only_child.new.cache (Some f) c.in_err-below.ensures.asks)

pub returns-in_err-free-clause-changes : goal.returns-in_err-free-clause-changes
returns-in_err-free-clause-changes g c =
    changes_and_refuses c.args.cache.now c.only_child.new.cache c.free.new.self c.in_err-free.field-0.0
    c.from_residual-in_err-free.result c.from_residual-in_err-free.ensures.1
    (changes_in_turn c.args.cache.now c.lowering.cache c.only_child.new.cache None c.lowering.invariant.0
    (asks_changes c.lowering.cache c.only_child.new.cache None c.in_ok-below.ensures.asks))
    c.in_err-free.ensures.changes

pub returns-in_default-clause-changes : goal.returns-in_default-clause-changes
returns-in_default-clause-changes g c =
    changes_in_turn c.args.cache.now c.lowering.cache c.only_child.new.cache None c.lowering.invariant.0
    (asks_changes c.lowering.cache c.only_child.new.cache None c.in_ok-below.ensures.asks)

pub returns-in_err-below-clause-untouched : goal.returns-in_err-below-clause-untouched
returns-in_err-below-clause-untouched g c = λ h none.
    let f = c.in_err-below.field-0.0 in
    ⊎_elim
    (λ (same : c.lowering.now ≡ c.args.root).
    at_error c.from_residual.result f _
    c.from_residual.ensures.1
    (subst (λ (root : Root). IsOfDevice f ⊎ (f ≡ fault.Damaged root.page)) same
    (c.in_err-below.ensures.faults (c.lowering.invariant.0.honest.0 h))))
    (λ (touched : touched_of c.lowering.cache ≡ true).
    absurd (true≢false (sym touched ∙ sym c.in_err-below.ensures.asks.touched ∙ none)))
    (c.lowering.invariant.4 h)

pub returns-in_err-free-clause-untouched : goal.returns-in_err-free-clause-untouched
returns-in_err-free-clause-untouched g c = λ h none.
    let node = c.in_ok-below.ensures.given_node (c.lowering.invariant.0.honest.0 h) in
    let out = node_was_given_out g.row.D c.lowering.cache c.lowering.now.page node.0 node.1 in
    let below : c.lowering.now.page < next_of c.only_child.new.cache =
    omega (arith, out.1, c.in_ok-below.ensures.asks.map.next) in
    let f = c.in_err-free.field-0.0 in
    at_error c.from_residual-in_err-free.result f _
    c.from_residual-in_err-free.ensures.1
    (inl (c.in_err-free.ensures.untouched c.lowering.invariant.1.page.0 below none))

pub returns-in_err-below-clause-number : goal.returns-in_err-below-clause-number
returns-in_err-below-clause-number g c = λ h.
    let page = c.lowering.now.page in
    let f = c.in_err-below.field-0.0 in
    at_error c.from_residual.result f NamesInRange
    c.from_residual.ensures.1
    (λ n damaged. comes_in_range g.row.D (given c.lowering.cache) page n c.lowering.invariant.1.page
    ([], damaged_read f page n (c.in_err-below.ensures.faults (c.lowering.invariant.5 h).honest) damaged))

pub returns-in_err-free-clause-number : goal.returns-in_err-free-clause-number
returns-in_err-free-clause-number g c = λ h.
    let map = c.lowering.invariant.5 h in
    let page = c.lowering.now.page in
    let asks = c.in_ok-below.ensures.asks in
    let node = c.in_ok-below.ensures.given_node map.honest in
    let there = given_node_is_live g.row.D c.lowering.cache page node.0 map node.1 in
    let live =
    subst IsSome (sym (asks.map.pages_stay map.honest page))
    (page_of_node g.row.D (pages c.lowering.cache page) node.0 there) in
    let device =
    c.in_err-free.ensures.faults (asks.map.sound.0 map) live
    (λ two. omega (arith, two, c.lowering.invariant.1.page)) in
    at_error c.from_residual-in_err-free.result c.in_err-free.field-0.0 NamesInRange
    c.from_residual-in_err-free.ensures.1
    (λ n damaged. absurd (device_names_none c.in_err-free.field-0.0 n device damaged))
