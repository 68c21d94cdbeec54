-- The goals of `place` that are proved by hand.
use Rattle.std.proofs.Common.{rules, ◌≡◌, ◌∙◌, ◌+◌, ◌-◌, ◌<◌, [], ◌∷◌, ◌++◌, IfSome, None, Ok, Result, Some}
use Rattle.std.proofs.Common.{inl, refl, sym, ap, subst, arith, ◌⊎◌}
use Rattle.page_file.specs.declared.fault.Fault.{Fault}
use Rattle.page_file.specs.declared.fault.Fault.TheVariants as fault
use Rattle.page_cache.specs.Cache.{IsPageMap, given, pages}
use Rattle.page_cache.specs.Calls.{asks_changes, changes_and_refuses, changes_in_turn, fault_in}
use Rattle.tree_node.specs.declared.node.Entry.{Entry}
use Rattle.tree_node.specs.Nodes.{Item}
use Rattle.tree_node.specs.Trees.{row_items}
use Rattle.choose_subtree.specs.Choice.{IsChosenChild}
use Rattle.node_bytes.specs.Layout.{IsOfLevel}
use Rattle.node_page.specs.Standing.{PageMap}
use Rattle.node_page.proofs.DamageLemmas.{comes_below_so, comes_on, damaged_read}
use Rattle.node_page.proofs.NodeLemmas.{at_error, if_error}
use Rattle.node_page.specs.Faults.{IsNoDamage, IsChangeFault}
use Rattle.reinsert.proofs.PlaceLemmas.{few_can, few_items, here_ok, over_ok, there_after}
use Rattle.reinsert.proofs.AboveLemmas.{items_kept}
use Rattle.reinsert.proofs.SettledLemmas.{items_settled}
use Rattle.reinsert.specs.declared.settled.Settled.{Settled}
use Rattle.reinsert.proofs.FaultLemmas.{changes_refused, named_page, one_more}
use Rattle.reinsert.proofs.place.+place.Goals as goal

pub put_here-requires : goal.put_here-requires
put_here-requires g t c =
    let refers : IsOfLevel c.args.at.level c.args.entry.now.reference c.args.entry.now.tag =
    subst (λ l. IsOfLevel l c.args.entry.now.reference c.args.entry.now.tag) (sym c.if-at-target.true)
    c.requires.refers in (
      search rules,
      (
        search,
        (
          search rules,
          ((omega (arith, c.requires.levels), omega (arith, c.requires.levels)), refers),
        ),
      ),
    )

pub returns-then-at-target-clause-placed : goal.returns-then-at-target-clause-placed
returns-then-at-target-clause-placed g t c = λ h row branch item can.
    let m : PageMap = pages c.args.cache.now in
    let m' : PageMap = pages c.put_here.new.cache in
    here_ok c.put_here.result (IsPageMap c.put_here.new.cache) c.args.limits.fanout.most c.args.limits.top
    c.args.at.level
    c.args.target c.args.waiting.now.called branch row m m m' c.args.at.page
    c.args.waiting.now.waits.items _ _
    (λ n. refl) can c.if-at-target.true
    (λ branches are settle. c.put_here.ensures.settled h (row_items row) can.there branches
    (are ∙ ap (λ (x : Item). row_items row ++ x ∷ []) item) settle)

pub returns-then-at-target-clause-faults : goal.returns-then-at-target-clause-faults
returns-then-at-target-clause-faults g t c =
    λ h row branch item can few. c.put_here.ensures.faults h (row_items row) can.there tt
    (few_items g.row.D c.args.limits.fanout.most row few)

-- ---- the way down is refused, or the placing below it

pub returns-in_err-way-clause-faults : goal.returns-in_err-way-clause-faults
returns-in_err-way-clause-faults g t c = λ h row branch item can few.
    at_error c.from_residual.result c.in_err-way.field-0.0 (IsNoDamage c.way_down.new.cache)
    c.from_residual.ensures.1
    (inl (c.in_err-way.ensures.faults h.honest (record { level = c.args.at.level; entries = row_items row })
    can.there refl (few_items g.row.D c.args.limits.fanout.most row few)))

pub returns-in_err-way-clause-changes : goal.returns-in_err-way-clause-changes
returns-in_err-way-clause-changes g t c =
    let new = c.way_down.new.cache in
    changes_refused c.args.cache.now new c.in_err-way.field-0.0 c.from_residual.result c.from_residual.ensures.1
    (asks_changes c.args.cache.now new (Some c.in_err-way.field-0.0) c.in_err-way.ensures.asks)

pub returns-in_err-way-clause-other_faults : goal.returns-in_err-way-clause-other_faults
returns-in_err-way-clause-other_faults g t c =
    at_error c.from_residual.result c.in_err-way.field-0.0 (IsChangeFault c.way_down.new.cache)
    c.from_residual.ensures.1
    (one_more _ _ _ c.in_err-way.ensures.other_faults)

pub returns-in_err-lower-clause-faults : goal.returns-in_err-lower-clause-faults
returns-in_err-lower-clause-faults g t c = λ h row branch item can few.
    let m : PageMap = pages c.args.cache.now in
    let m0 : PageMap = pages c.way_down.new.cache in
    let way = c.in_ok-way.way in
    let is =
    c.in_ok-way.ensures.way h.honest (record { level = c.args.at.level; entries = row_items row })
    can.there refl in
    let low =
    few_can c.args.limits.fanout.most c.args.at.level c.args.target way.place way.page branch row m m0
    c.args.at.page
    (row_items row)
    (c.in_ok-way.ensures.asks.map.pages_stay h.honest) can
    (omega (arith, c.requires.levels, c.if-at-target.false)) refl is.chosen.within is.page few in
    at_error c.from_residual-in_err-lower.result c.in_err-lower.field-0.0
    (IsNoDamage c.place.new.cache) c.from_residual-in_err-lower.ensures.1
    (c.in_err-lower.ensures.faults (c.in_ok-way.ensures.asks.map.sound.0 h) low.0 branch item low.1 low.2)

pub returns-in_err-lower-clause-changes : goal.returns-in_err-lower-clause-changes
returns-in_err-lower-clause-changes g t c =
    let old = c.args.cache.now in
    let mid = c.way_down.new.cache in
    changes_and_refuses old mid c.place.new.cache c.in_err-lower.field-0.0
    c.from_residual-in_err-lower.result c.from_residual-in_err-lower.ensures.1
    (asks_changes old mid None c.in_ok-way.ensures.asks) c.in_err-lower.ensures.changes

pub returns-in_err-lower-clause-other_faults : goal.returns-in_err-lower-clause-other_faults
returns-in_err-lower-clause-other_faults g t c =
    at_error c.from_residual-in_err-lower.result c.in_err-lower.field-0.0 (IsChangeFault c.place.new.cache)
    c.from_residual-in_err-lower.ensures.1 c.in_err-lower.ensures.other_faults

-- ---- the call below

pub place-requires : goal.place-requires
place-requires g t c κs within =
    let above : c.args.target < c.args.at.level = omega (arith, c.requires.levels, c.if-at-target.false) in (
      omega (arith, above, c.decreases),
      (
        search rules,
        (
          search rules,
          (
            search rules,
            (
              search rules,
              (
                search rules,
                (
                  search rules,
                  (omega (arith, above, c.requires.levels), c.requires.refers),
                ),
              ),
            ),
          ),
        ),
      ),
    )

-- ---- the node stays

pub returns-then-keeps_entries-clause-placed : goal.returns-then-keeps_entries-clause-placed
returns-then-keeps_entries-clause-placed g t c = λ h row branch item can.
    let D = g.row.D in
    let m : PageMap = pages c.args.cache.now in
    let m0 : PageMap = pages c.way_down.new.cache in
    let m1 : PageMap = pages c.place.new.cache in
    let level = c.args.at.level in
    let page = c.args.at.page in
    let way = c.in_ok-way.way in
    let lower = c.in_ok-lower.lower in
    let called = c.place.new.waiting.called in
    let waits = c.place.new.waiting.waits.items in
    let settled : Settled D = record { bounds = way.least; beside = None } in
    let done : Result (Settled D) Fault = Ok settled in
    let is =
    c.in_ok-way.ensures.way h.honest (record { level = level; entries = row_items row }) can.there refl in
    let kept = c.keeps_entries.ensures c.if-keeps_entries.true in
    let chosen =
    subst (λ (x : Item). IsChosenChild D level (row_items row) x.bounds way.place) (sym item) is.chosen in
    over_ok done (IsPageMap c.place.new.cache) (IsPageMap c.place.new.cache) c.args.limits.fanout.most
    c.args.limits.top level
    c.args.target way.place way.page c.args.waiting.now.called called branch row m m0 m1 m1 page lower
    c.args.waiting.now.waits.items waits waits called (row_items row)
    (c.in_ok-way.ensures.asks.map.pages_stay h.honest) can
    (omega (arith, c.requires.levels, c.if-at-target.false)) refl chosen is.page
    (λ below could. c.in_ok-lower.ensures.placed (c.in_ok-way.ensures.asks.map.sound.0 h) below branch item
    could)
    (λ sound branches are settle there. (
      sound,
      items_settled c.args.limits.fanout.most c.args.limits.top level called branches (row_items row) m1 m1
          page
          settled waits
          waits called (are ∙ items_kept (row_items row) way.place lower kept.0 (kept.1 ∙ is.bounds)) settle
          is.few is.least refl refl refl there (λ k differs. refl),
    ))

pub returns-then-keeps_entries-clause-changes : goal.returns-then-keeps_entries-clause-changes
returns-then-keeps_entries-clause-changes g t c =
    changes_in_turn c.args.cache.now c.way_down.new.cache c.place.new.cache None
    (asks_changes c.args.cache.now c.way_down.new.cache None c.in_ok-way.ensures.asks)
    c.in_ok-lower.ensures.changes

-- ---- the node is settled

pub put_above-requires : goal.put_above-requires
put_above-requires g t c =
    let up : c.args.at.level - 1 + 1 ≡ c.args.at.level =
    omega (arith, c.requires.levels, c.if-at-target.false) in
    let beside : IfSome c.in_ok-lower.lower.beside
    (λ (e : Entry g.row.D). IsOfLevel c.args.at.level e.reference e.tag) =
    subst (λ l. IfSome c.in_ok-lower.lower.beside (λ (e : Entry g.row.D). IsOfLevel l e.reference e.tag)) up
    c.in_ok-lower.ensures.beside in (
      search rules,
      (
        search (c.requires-raw),
        ((omega (arith, c.requires.levels), omega (arith, c.requires.levels)), beside),
      ),
    )

pub returns-clause-placed : goal.returns-clause-placed
returns-clause-placed g t c = λ h row branch item can.
    let D = g.row.D in
    let m : PageMap = pages c.args.cache.now in
    let m0 : PageMap = pages c.way_down.new.cache in
    let m1 : PageMap = pages c.place.new.cache in
    let m' : PageMap = pages c.put_above.new.cache in
    let level = c.args.at.level in
    let way = c.in_ok-way.way in
    let is =
    c.in_ok-way.ensures.way h.honest (record { level = level; entries = row_items row }) can.there refl in
    let chosen =
    subst (λ (x : Item). IsChosenChild D level (row_items row) x.bounds way.place) (sym item) is.chosen in
    over_ok c.put_above.result (IsPageMap c.put_above.new.cache) (IsPageMap c.place.new.cache)
    c.args.limits.fanout.most
    c.args.limits.top level c.args.target way.place way.page c.args.waiting.now.called
    c.place.new.waiting.called branch row m m0 m1 m'
    c.args.at.page c.in_ok-lower.lower c.args.waiting.now.waits.items c.place.new.waiting.waits.items _ _
    (row_items row) (c.in_ok-way.ensures.asks.map.pages_stay h.honest) can
    (omega (arith, c.requires.levels, c.if-at-target.false)) refl chosen is.page
    (λ below could. c.in_ok-lower.ensures.placed (c.in_ok-way.ensures.asks.map.sound.0 h) below branch item
    could)
    (λ sound branches are settle there. c.put_above.ensures.settled sound (row_items row) there branches are
    settle)

pub returns-clause-faults : goal.returns-clause-faults
returns-clause-faults g t c = λ h row branch item can few.
    let m : PageMap = pages c.args.cache.now in
    let m0 : PageMap = pages c.way_down.new.cache in
    let m1 : PageMap = pages c.place.new.cache in
    let level = c.args.at.level in
    let way = c.in_ok-way.way in
    let is =
    c.in_ok-way.ensures.way h.honest (record { level = level; entries = row_items row }) can.there refl in
    let there =
    there_after (IsPageMap c.place.new.cache) c.args.limits.fanout.most c.args.limits.top level c.args.target
    way.place
    way.page c.args.waiting.now.called c.place.new.waiting.called branch row m m0 m1 c.args.at.page
    c.in_ok-lower.lower
    c.args.waiting.now.waits.items c.place.new.waiting.waits.items (row_items row)
    (c.in_ok-way.ensures.asks.map.pages_stay h.honest) can
    (omega (arith, c.requires.levels, c.if-at-target.false)) refl is.chosen.within is.page
    (λ below could. c.in_ok-lower.ensures.placed (c.in_ok-way.ensures.asks.map.sound.0 h) below branch item
    could) in
    c.put_above.ensures.faults there.0 (row_items row) there.1 is.chosen.within
    (few_items g.row.D c.args.limits.fanout.most row few)

pub returns-clause-changes : goal.returns-clause-changes
returns-clause-changes g t c =
    let old = c.args.cache.now in
    let mid = c.way_down.new.cache in
    let low = c.place.new.cache in
    changes_in_turn old low c.put_above.new.cache (fault_in c.put_above.result)
    (changes_in_turn old mid low None (asks_changes old mid None c.in_ok-way.ensures.asks)
    c.in_ok-lower.ensures.changes) c.put_above.ensures.changes

-- ---- in any pages of a sound map

pub returns-then-at-target-clause-damage : goal.returns-then-at-target-clause-damage
returns-then-at-target-clause-damage g t c = λ h.
    if_error c.put_here.result
    (λ f. IsNoDamage c.put_here.new.cache f ⊎ (f ≡ fault.Damaged c.args.at.page)) _
    (λ f is n damaged. ([], named_page c.put_here.new.cache f c.args.at.page n is damaged))
    (c.put_here.ensures.damaged h)

pub returns-in_err-way-clause-damage : goal.returns-in_err-way-clause-damage
returns-in_err-way-clause-damage g t c = λ h.
    at_error c.from_residual.result c.in_err-way.field-0.0 _
    c.from_residual.ensures.1
    (λ n damaged. (
      [],
      damaged_read c.in_err-way.field-0.0 c.args.at.page n (c.in_err-way.ensures.damaged h.honest) damaged,
    ))

pub returns-in_err-lower-clause-damage : goal.returns-in_err-lower-clause-damage
returns-in_err-lower-clause-damage g t c = λ h.
    let D = g.row.D in
    let m = given c.args.cache.now in
    let now = given c.way_down.new.cache in
    let asks = c.in_ok-way.ensures.asks in
    let node = c.in_ok-way.ensures.named h.honest in
    at_error c.from_residual-in_err-lower.result c.in_err-lower.field-0.0 _
    c.from_residual-in_err-lower.ensures.1
    (λ n damaged. comes_on D m c.args.at.page node.0 n node.1
    (comes_below_so D m now node.0 n (asks.map.given_stay h.honest)
    (c.in_ok-way.way.page, node.2, c.in_err-lower.ensures.damage (asks.map.sound.0 h) n damaged)))

pub returns-then-keeps_entries-clause-sound : goal.returns-then-keeps_entries-clause-sound
returns-then-keeps_entries-clause-sound g t c = λ h.
    c.in_ok-lower.ensures.sound (c.in_ok-way.ensures.asks.map.sound.0 h)

pub returns-clause-sound : goal.returns-clause-sound
returns-clause-sound g t c = λ h.
    c.put_above.ensures.sound (c.in_ok-lower.ensures.sound (c.in_ok-way.ensures.asks.map.sound.0 h))

pub returns-clause-damage : goal.returns-clause-damage
returns-clause-damage g t c = λ h.
    if_error c.put_above.result
    (λ f. IsNoDamage c.put_above.new.cache f ⊎ (f ≡ fault.Damaged c.args.at.page)) _
    (λ f is n damaged. ([], named_page c.put_above.new.cache f c.args.at.page n is damaged))
    (c.put_above.ensures.damaged (c.in_ok-lower.ensures.sound (c.in_ok-way.ensures.asks.map.sound.0 h)))
