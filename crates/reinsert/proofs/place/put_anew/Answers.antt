-- The node that is read is the one at the page.
use Rattle.std.proofs.Common.{rules, ◌≡◌, ◌∙◌, ◌+◌, All, IfOk, IfSome, IsSome, None, List, length, map, inl}
use Rattle.std.proofs.Common.{Some}
use Rattle.std.proofs.Common.{refl, sym, ap, subst, arith, inr, ◌⊎◌, ⊎_elim}
use Rattle.std.proofs.lemmas.List.{length-map}
use Rattle.page_file.specs.Fault.{IsOfDevice}
use Rattle.page_file.specs.declared.fault.Fault.TheVariants as fault
use Rattle.page_cache.specs.Cache.{IsPageMap, pages}
use Rattle.page_cache.specs.Calls.{asks_and_gives_up, no_call_asks}
use Rattle.page_cache.specs.Calls.{asks_changes, changes_in_turn}
use Rattle.tree_node.specs.declared.node.Entry.{Entry}
use Rattle.tree_node.specs.Nodes.{Item, NodeContent, content_of, item_of}
use Rattle.node_page.specs.Faults.{IsChangeFault}
use Rattle.node_page.specs.Faults.{IsNoDamage}
use Rattle.node_bytes.specs.Layout.{IsOfLevel}
use Rattle.node_page.specs.Standing.{PageMap}
use Rattle.node_page.proofs.GivenLemmas.{given_node_is_live}
use Rattle.node_page.proofs.NodeLemmas.{at_error, if_error}
use Rattle.node_page.proofs.StandingLemmas.{page_of_node, same_content}
use Rattle.reinsert.specs.Placed.{CanSettle, SettlesTo, items_after}
use Rattle.reinsert.proofs.PlaceLemmas.{can_settle_from, settles_from}
use Rattle.reinsert.proofs.FaultLemmas.{damaged_asks, no_answer, no_success, one_more}
use Rattle.reinsert.proofs.place.put_anew.Goals as goal

pub returns-in_err-read_fitting : goal.returns-in_err-read_fitting
returns-in_err-read_fitting g c = record {
  changes = asks_and_gives_up c.args.cache.now c.args.cache.now c.read_fitting.new.cache
      c.in_err-read_fitting.field-0.0 c.from_residual.result c.from_residual.ensures.1
      (no_call_asks c.args.cache.now) c.in_err-read_fitting.ensures.asks;
  grows = search rules;
  measure = search rules;
  beside = no_answer c.from_residual.result c.in_err-read_fitting.field-0.0 _ c.from_residual.ensures.1;
  settled = λ h items there branches are can. no_answer c.from_residual.result c.in_err-read_fitting.field-0.0
      _ c.from_residual.ensures.1;
  faults = λ h items there within few.
      at_error c.from_residual.result c.in_err-read_fitting.field-0.0 (IsNoDamage c.read_fitting.new.cache)
      c.from_residual.ensures.1 (inl (c.in_err-read_fitting.ensures.faults h.honest _ there refl few));
  sound = λ h. no_success c.from_residual.result c.in_err-read_fitting.field-0.0 _ c.from_residual.ensures.1;
  damaged = λ h.
      let f = c.in_err-read_fitting.field-0.0 in
      at_error c.from_residual.result f _
      c.from_residual.ensures.1
      (⊎_elim (λ (device : IsOfDevice f). inl (inl device)) (λ (is : f ≡ fault.Damaged c.args.at.page). inr
      is)
      (c.in_err-read_fitting.ensures.damaged h.honest));
  other_faults = at_error c.from_residual.result c.in_err-read_fitting.field-0.0
      (IsChangeFault c.read_fitting.new.cache)
      c.from_residual.ensures.1 (one_more _ _ _ c.in_err-read_fitting.ensures.other_faults);
}

pub returns-then-place-len : goal.returns-then-place-len
returns-then-place-len g c = record {
  changes = asks_changes c.args.cache.now c.read_fitting.new.cache (Some (fault.Damaged c.args.at.page))
      (damaged_asks c.args.cache.now c.read_fitting.new.cache c.args.at.page
      c.in_ok-read_fitting.ensures.asks);
  grows = search rules;
  measure = search rules;
  beside = search rules;
  settled = λ h items there branches are can. tt;
  faults = λ h items there within few.
      let m : PageMap = pages c.args.cache.now in
      let page = c.args.at.page in
      let read = c.in_ok-read_fitting.ensures.node h.honest (page_of_node g.row.D (m page) _ there) in
      let same = same_content g.row.D m page _ _ there read in
      absurd (omega (
        arith,
        ap (λ (x : NodeContent). length x.entries) same,
        length-map c.read_fitting.new.node.entries.items item_of,
        within,
        c.if-place-len.true,
        c.len.ensures.value,
      ));
  sound = λ h. tt;
  damaged = λ h. inr refl;
  other_faults = search rules;
}

pub put_lower-requires : goal.put_lower-requires
put_lower-requires g c =
    let level = c.in_ok-read_fitting.ensures.level in
    let refers : All (λ (e : Entry g.row.D). IsOfLevel c.read_fitting.new.node.level e.reference e.tag)
    c.read_fitting.new.node.entries.items =
    subst (λ l. All (λ (e : Entry g.row.D). IsOfLevel l e.reference e.tag)
    c.read_fitting.new.node.entries.items) (sym level) c.in_ok-read_fitting.ensures.refers in
    let beside : IfSome c.args.lower.beside
    (λ (e : Entry g.row.D). IsOfLevel c.read_fitting.new.node.level e.reference e.tag) =
    subst (λ l. IfSome c.args.lower.beside (λ (e : Entry g.row.D). IsOfLevel l e.reference e.tag))
    (sym level) c.requires.beside in (
      search rules,
      (
        search rules,
        (
          omega (arith, c.if-place-len.false, c.len.ensures.value),
          (omega (arith, c.in_ok-read_fitting.ensures.few, c.args.limits.fanout.within), (refers, beside)),
        ),
      ),
    )

pub settle-requires : goal.settle-requires
settle-requires g c =
    let level : c.put_lower.new.node.level ≡ c.args.at.level =
    c.put_lower.ensures.level ∙ c.in_ok-read_fitting.ensures.level in
    let new = c.put_lower.ensures.entries in
    let refers : All (λ (e : Entry g.row.D). IsOfLevel c.put_lower.new.node.level e.reference e.tag)
    c.put_lower.new.node.entries.items =
    subst (λ l. All (λ (e : Entry g.row.D). IsOfLevel l e.reference e.tag)
    c.put_lower.new.node.entries.items) (sym c.put_lower.ensures.level) new.refers in (
      search rules,
      (
        search rules,
        (
          search rules,
          (
            (omega (arith, level, c.requires.top), omega (arith, c.requires.top)),
            (new.some, (omega (arith, new.few, c.in_ok-read_fitting.ensures.few), refers)),
          ),
        ),
      ),
    )

pub returns : goal.returns
returns g c = record {
  changes = changes_in_turn c.args.cache.now c.read_fitting.new.cache c.settle.new.cache _
      (asks_changes c.args.cache.now c.read_fitting.new.cache None c.in_ok-read_fitting.ensures.asks)
      c.settle.ensures.changes;
  grows = search rules;
  measure = c.settle.ensures.measure;
  beside = subst (λ l. IfOk c.settle.result
      (λ s. IfSome s.beside (λ (e : Entry g.row.D). IsOfLevel (l + 1) e.reference e.tag)))
      (c.put_lower.ensures.level ∙ c.in_ok-read_fitting.ensures.level) c.settle.ensures.beside;
  settled = λ h items there branches are can.
      let D = g.row.D in
      let m : PageMap = pages c.args.cache.now in
      let m0 : PageMap = pages c.read_fitting.new.cache in
      let m' : PageMap = pages c.settle.new.cache in
      let level : c.put_lower.new.node.level ≡ c.args.at.level =
      c.put_lower.ensures.level ∙ c.in_ok-read_fitting.ensures.level in
      let page = c.args.at.page in
      let read = c.in_ok-read_fitting.ensures.node h.honest (page_of_node D (m page) _ there) in
      let same : items ≡ map item_of c.read_fitting.new.node.entries.items =
      ap (λ (x : NodeContent). x.entries) (same_content D m page _ _ there read) in
      let stays = c.in_ok-read_fitting.ensures.asks.map.pages_stay h.honest in
      settles_from c.settle.result (IsPageMap c.settle.new.cache) c.args.limits.fanout.most c.args.limits.top
      c.args.at.level c.args.waiting.now.called branches m m0 m' page c.args.waiting.now.waits.items _ _
      stays
      (subst (λ l. IfOk c.settle.result
      (λ s. IsPageMap c.settle.new.cache
      × SettlesTo D c.args.limits.fanout.most c.args.limits.top l c.args.waiting.now.called branches m0 m'
      page s
      c.args.waiting.now.waits.items c.settle.new.waiting.waits.items
      c.settle.new.waiting.called)) level
      (c.settle.ensures.settled (c.in_ok-read_fitting.ensures.asks.map.sound.0 h) branches
      (are ∙ ap (λ (es : List Item). items_after es c.args.place c.args.lower) same
      ∙ sym c.put_lower.ensures.entries.items)
      (subst (λ l. CanSettle D m0 page l branches) (sym level)
      (can_settle_from D m m0 page c.args.at.level branches stays can))));
  faults = λ h items there within few.
      let m : PageMap = pages c.args.cache.now in
      let same = c.in_ok-read_fitting.ensures.asks.map.pages_stay h.honest c.args.at.page in
      c.settle.ensures.faults (c.in_ok-read_fitting.ensures.asks.map.sound.0 h)
      (subst IsSome (sym same) (page_of_node g.row.D (m c.args.at.page) _ there));
  sound = λ h.
      let old = c.args.cache.now in
      let page = c.args.at.page in
      let content = content_of c.read_fitting.new.node in
      let map = c.in_ok-read_fitting.ensures.asks.map in
      let there =
      given_node_is_live g.row.D old page content h (c.in_ok-read_fitting.ensures.given_node h.honest) in
      let live =
      subst IsSome (sym (map.pages_stay h.honest page)) (page_of_node g.row.D (pages old page) content there)
      in
      c.settle.ensures.sound (map.sound.0 h) live;
  damaged = λ h.
      let old = c.args.cache.now in
      let page = c.args.at.page in
      let content = content_of c.read_fitting.new.node in
      let map = c.in_ok-read_fitting.ensures.asks.map in
      let there =
      given_node_is_live g.row.D old page content h (c.in_ok-read_fitting.ensures.given_node h.honest) in
      let live =
      subst IsSome (sym (map.pages_stay h.honest page)) (page_of_node g.row.D (pages old page) content there)
      in
      if_error c.settle.result (IsNoDamage c.settle.new.cache)
      (λ f. IsNoDamage c.settle.new.cache f ⊎ (f ≡ fault.Damaged page)) (λ f is. inl is)
      (c.settle.ensures.faults (map.sound.0 h) live);
  other_faults = c.settle.ensures.other_faults;
}
