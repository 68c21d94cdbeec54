-- The goals of `put_here` that are proved by hand.
use Rattle.std.proofs.Common.{rules, ◌≡◌, ◌∙◌, ◌+◌, ◌++◌, [], ◌∷◌, List, map, sym, ap, subst, refl, arith}
use Rattle.std.proofs.Common.{All, IfOk, IfSome, IsSome, None, Some, inl, inr, ◌⊎◌, ⊎_elim}
use Rattle.std.proofs.lemmas.List.{length-append, map-append}
use Rattle.std.proofs.lemmas.List.Elements.{All-append}
use Rattle.box_math.specs.Bounds.{Bounds}
use Rattle.page_file.specs.Fault.{IsOfDevice}
use Rattle.page_file.specs.declared.fault.Fault.TheVariants as fault
use Rattle.page_cache.specs.Cache.{IsPageMap, pages}
use Rattle.page_cache.specs.Calls.{AsksUntil, asks_and_changes, asks_and_gives_up, asks_in_turn}
use Rattle.tree_node.specs.Boxes.{least_box}
use Rattle.tree_node.specs.declared.node.Entry.{Entry}
use Rattle.tree_node.specs.Nodes.{Item, NodeContent, content_of, item_of}
use Rattle.node_bytes.specs.Layout.{IsOfLevel, pushed}
use Rattle.node_page.specs.Standing.{PageMap, node_in}
use Rattle.node_page.proofs.StandingLemmas.{page_of_node, same_content}
use Rattle.node_page.proofs.GivenLemmas.{given_node_is_live}
use Rattle.node_page.proofs.NodeLemmas.{at_error, if_error}
use Rattle.node_page.specs.Faults.{IsChangeFault}
use Rattle.node_page.specs.Faults.{IsNoDamage}
use Rattle.reinsert.specs.Placed.{CanSettle, SettlesTo}
use Rattle.reinsert.specs.declared.settled.Settled.{Settled}
use Rattle.reinsert.proofs.FaultLemmas.{changes_refused, no_answer, no_success, one_more}
use Rattle.reinsert.proofs.FaultLemmas.{at_none}
use Rattle.reinsert.proofs.PlaceLemmas.{can_settle_from, settles_from}
use Rattle.reinsert.proofs.SettledLemmas.{items_settled}
use Rattle.reinsert.proofs.WaitLemmas.{All-one}
use Rattle.reinsert.proofs.place.put_here.Goals as goal

-- ---- it has room

pub returns-in-Some : goal.returns-in-Some
returns-in-Some g c = record {
  changes = search rules;
  grows = search rules;
  measure = search rules;
  beside = search rules;
  settled = λ h items there branches are can.
      let D = g.row.D in
      let m : PageMap = pages c.args.cache.now in
      let m' : PageMap = pages c.add_entry.new.cache in
      let page = c.args.at.page in
      let level = c.args.at.level in
      let node : NodeContent = record { level = level; entries = items } in
      let after = items ++ item_of c.args.entry.now ∷ [] in
      let settled : Settled D = record { bounds = c.in-Some.bounds; beside = None } in
      let some : IsSome c.in_ok-bounds.field-0 = subst IsSome (sym c.in-Some.is) refl in
      let room = (c.in_ok-bounds.ensures.room h.honest node there refl).0 some in
      let added =
      subst (λ o. IfSome o
      (λ (b : Bounds). (node_in D (m' page) ≡ Some (pushed node (item_of c.args.entry.now)))
      × (b ≡ least_box D after))) c.in-Some.is (c.in_ok-bounds.ensures.added h.honest node there) in (
        c.in_ok-bounds.ensures.sound h can.live,
        items_settled c.args.limits.fanout.most c.args.limits.top level c.args.waiting.now.called branches
            after m
            m' page settled
            c.args.waiting.now.waits.items c.args.waiting.now.waits.items c.args.waiting.now.called
            are can (omega (
              arith,
              length-append items (item_of c.args.entry.now ∷ []),
              room.1,
              c.entries-most.ensures,
            )) added.1 refl
            refl refl added.0 (c.in_ok-bounds.ensures.others h.honest can.live),
      );
  faults = λ h items there asked few. tt;
  sound = λ h.
      let old = c.args.cache.now in
      let page = c.args.at.page in
      let node = c.in_ok-bounds.ensures.given_node h.honest in
      c.in_ok-bounds.ensures.sound h
      (page_of_node g.row.D (pages old page) node.0 (given_node_is_live g.row.D old page node.0 h node.1));
  damaged = λ h. tt;
  other_faults = search rules;
}

-- ---- it is read

pub returns-in_err-read_fitting : goal.returns-in_err-read_fitting
returns-in_err-read_fitting g c = record {
  changes = let asked : AsksUntil c.args.cache.now c.add_entry.new.cache None =
      at_none c.in_ok-bounds.field-0 _ c.in_ok-bounds.ensures.full c.in_default.not-Some in
      asks_and_gives_up c.args.cache.now c.add_entry.new.cache c.read_fitting.new.cache
      c.in_err-read_fitting.field-0.0 c.from_residual-in_err-read_fitting.result
      c.from_residual-in_err-read_fitting.ensures.1 asked c.in_err-read_fitting.ensures.asks;
  grows = search rules;
  measure = search rules;
  beside = no_answer c.from_residual-in_err-read_fitting.result c.in_err-read_fitting.field-0.0 _
      c.from_residual-in_err-read_fitting.ensures.1;
  settled = λ h items there branches are can. no_answer c.from_residual-in_err-read_fitting.result
      c.in_err-read_fitting.field-0.0 _ c.from_residual-in_err-read_fitting.ensures.1;
  faults = λ h items there asked few.
      let asked : AsksUntil c.args.cache.now c.add_entry.new.cache None =
      at_none c.in_ok-bounds.field-0 _ c.in_ok-bounds.ensures.full c.in_default.not-Some in
      let node : NodeContent = record { level = c.args.at.level; entries = items } in
      at_error c.from_residual-in_err-read_fitting.result c.in_err-read_fitting.field-0.0
      (IsNoDamage c.read_fitting.new.cache) c.from_residual-in_err-read_fitting.ensures.1
      (inl (c.in_err-read_fitting.ensures.faults (asked.gate.honest.0 h.honest) node
      (ap (node_in g.row.D) (asked.map.pages_stay h.honest c.args.at.page) ∙ there) refl few));
  sound = λ h. no_success c.from_residual-in_err-read_fitting.result c.in_err-read_fitting.field-0.0 _
      c.from_residual-in_err-read_fitting.ensures.1;
  damaged = λ h.
      let asked : AsksUntil c.args.cache.now c.add_entry.new.cache None =
      at_none c.in_ok-bounds.field-0 _ c.in_ok-bounds.ensures.full c.in_default.not-Some in
      let f = c.in_err-read_fitting.field-0.0 in
      at_error c.from_residual-in_err-read_fitting.result f _
      c.from_residual-in_err-read_fitting.ensures.1
      (⊎_elim (λ (device : IsOfDevice f). inl (inl device)) (λ (is : f ≡ fault.Damaged c.args.at.page). inr
      is)
      (c.in_err-read_fitting.ensures.damaged (asked.gate.honest.0 h.honest)));
  other_faults = at_error c.from_residual-in_err-read_fitting.result c.in_err-read_fitting.field-0.0
      (IsChangeFault c.read_fitting.new.cache) c.from_residual-in_err-read_fitting.ensures.1
      (one_more _ _ _ c.in_err-read_fitting.ensures.other_faults);
}

-- ---- it is settled

pub settle-requires : goal.settle-requires
settle-requires g c =
    let level = c.in_ok-read_fitting.ensures.level in
    let asked : AsksUntil c.args.cache.now c.add_entry.new.cache None =
    at_none c.in_ok-bounds.field-0 _ c.in_ok-bounds.ensures.full c.in_default.not-Some in
    let P : Entry g.row.D → Type 0 = λ e. IsOfLevel c.read_fitting.new.node.level e.reference e.tag in
    let before : All P c.read_fitting.new.node.entries.items =
    subst (λ l. All (λ (e : Entry g.row.D). IsOfLevel l e.reference e.tag)
    c.read_fitting.new.node.entries.items) (sym level) c.in_ok-read_fitting.ensures.refers in
    let too : P c.args.entry.now =
    subst (λ l. IsOfLevel l c.args.entry.now.reference c.args.entry.now.tag) (sym level)
    c.requires.refers in
    let refers : All P c.push.new.self.items =
    subst (λ xs. All P xs) (sym c.push.ensures.items)
    (All-append P c.read_fitting.new.node.entries.items (c.args.entry.now ∷ []) before
    (All-one P c.args.entry.now too)) in (
      search rules,
      (
        search (c.requires-raw),
        (
          search rules,
          (
            (omega (arith, level, c.requires.top), omega (arith, c.requires.top)),
            (
              omega (arith, c.push.ensures.len),
              (omega (arith, c.push.ensures.len, c.in_ok-read_fitting.ensures.few), refers),
            ),
          ),
        ),
      ),
    )

pub returns : goal.returns
returns g c = record {
  changes = let old = c.args.cache.now in
      let mid = c.add_entry.new.cache in
      let read = c.read_fitting.new.cache in
      let asked : AsksUntil old mid None =
      at_none c.in_ok-bounds.field-0 _ c.in_ok-bounds.ensures.full c.in_default.not-Some in
      asks_and_changes old read c.settle.new.cache c.settle.result
      (asks_in_turn old mid read None asked c.in_ok-read_fitting.ensures.asks) c.settle.ensures.changes;
  grows = search rules;
  measure = search rules;
  beside = subst (λ l. IfOk c.settle.result
      (λ s. IfSome s.beside (λ (e : Entry g.row.D). IsOfLevel (l + 1) e.reference e.tag)))
      c.in_ok-read_fitting.ensures.level c.settle.ensures.beside;
  settled = λ h items there branches are can.
      let D = g.row.D in
      let m : PageMap = pages c.args.cache.now in
      let m0 : PageMap = pages c.read_fitting.new.cache in
      let m' : PageMap = pages c.settle.new.cache in
      let page = c.args.at.page in
      let node = c.read_fitting.new.node in
      let level = c.in_ok-read_fitting.ensures.level in
      let asked : AsksUntil c.args.cache.now c.add_entry.new.cache None =
      at_none c.in_ok-bounds.field-0 _ c.in_ok-bounds.ensures.full c.in_default.not-Some in
      let asks =
      asks_in_turn c.args.cache.now c.add_entry.new.cache c.read_fitting.new.cache None asked
      c.in_ok-read_fitting.ensures.asks in
      let stays = asks.map.pages_stay h.honest in
      let there' = ap (node_in D) (asked.map.pages_stay h.honest page) ∙ there in
      let read =
      c.in_ok-read_fitting.ensures.node (asked.gate.honest.0 h.honest)
      (page_of_node D (pages c.add_entry.new.cache page) _ there') in
      let same : items ≡ map item_of node.entries.items =
      ap (λ (x : NodeContent). x.entries)
      (same_content D (pages c.add_entry.new.cache) page _ _ there' read) in
      let pushed = map-append item_of node.entries.items (c.args.entry.now ∷ []) in
      settles_from c.settle.result (IsPageMap c.settle.new.cache) c.args.limits.fanout.most c.args.limits.top
      c.args.at.level
      c.args.waiting.now.called branches m m0 m' page c.args.waiting.now.waits.items _ _ stays
      (subst (λ l. IfOk c.settle.result
      (λ s. IsPageMap c.settle.new.cache
      × SettlesTo D c.args.limits.fanout.most c.args.limits.top l c.args.waiting.now.called branches m0 m'
      page s
      c.args.waiting.now.waits.items c.settle.new.waiting.waits.items c.settle.new.waiting.called)) level
      (c.settle.ensures.settled (asks.map.sound.0 h) branches
      (are ∙ ap (λ (es : List Item). es ++ item_of c.args.entry.now ∷ []) same ∙ sym pushed
      ∙ ap (map item_of) (sym c.push.ensures.items))
      (subst (λ l. CanSettle D m0 page l branches) (sym level)
      (can_settle_from D m m0 page c.args.at.level branches stays can))));
  faults = λ h items there asked few.
      let asked : AsksUntil c.args.cache.now c.add_entry.new.cache None =
      at_none c.in_ok-bounds.field-0 _ c.in_ok-bounds.ensures.full c.in_default.not-Some in
      let asks =
      asks_in_turn c.args.cache.now c.add_entry.new.cache c.read_fitting.new.cache None asked
      c.in_ok-read_fitting.ensures.asks in
      let live =
      subst IsSome (sym (asks.map.pages_stay h.honest c.args.at.page))
      (page_of_node g.row.D (pages c.args.cache.now c.args.at.page) _ there) in
      c.settle.ensures.faults (asks.map.sound.0 h) live;
  sound = λ h.
      let asked : AsksUntil c.args.cache.now c.add_entry.new.cache None =
      at_none c.in_ok-bounds.field-0 _ c.in_ok-bounds.ensures.full c.in_default.not-Some in
      let page = c.args.at.page in
      let mid = c.add_entry.new.cache in
      let content = content_of c.read_fitting.new.node in
      let read = c.in_ok-read_fitting.ensures.asks in
      let there =
      given_node_is_live g.row.D mid page content (asked.map.sound.0 h)
      (c.in_ok-read_fitting.ensures.given_node (asked.gate.honest.0 h.honest)) in
      let live =
      subst IsSome (sym (read.map.pages_stay (asked.gate.honest.0 h.honest) page))
      (page_of_node g.row.D (pages mid page) content there) in
      let sound = read.map.sound.0 (asked.map.sound.0 h) in
      c.settle.ensures.sound sound live;
  damaged = λ h.
      let asked : AsksUntil c.args.cache.now c.add_entry.new.cache None =
      at_none c.in_ok-bounds.field-0 _ c.in_ok-bounds.ensures.full c.in_default.not-Some in
      let page = c.args.at.page in
      let mid = c.add_entry.new.cache in
      let content = content_of c.read_fitting.new.node in
      let read = c.in_ok-read_fitting.ensures.asks in
      let there =
      given_node_is_live g.row.D mid page content (asked.map.sound.0 h)
      (c.in_ok-read_fitting.ensures.given_node (asked.gate.honest.0 h.honest)) in
      let live =
      subst IsSome (sym (read.map.pages_stay (asked.gate.honest.0 h.honest) page))
      (page_of_node g.row.D (pages mid page) content there) in
      let sound = read.map.sound.0 (asked.map.sound.0 h) in
      if_error c.settle.result (IsNoDamage c.settle.new.cache)
      (λ f. IsNoDamage c.settle.new.cache f ⊎ (f ≡ fault.Damaged page)) (λ f is. inl is)
      (c.settle.ensures.faults sound live);
  other_faults = search rules;
}

-- ---- in any pages of a sound map

pub returns-in_err-bounds : goal.returns-in_err-bounds
returns-in_err-bounds g c = record {
  changes = changes_refused c.args.cache.now c.add_entry.new.cache c.in_err-bounds.field-0.0
      c.from_residual.result c.from_residual.ensures.1 c.in_err-bounds.ensures.changes;
  grows = search rules;
  measure = search rules;
  beside = no_answer c.from_residual.result c.in_err-bounds.field-0.0 _ c.from_residual.ensures.1;
  settled = λ h items there branches are can. no_answer c.from_residual.result c.in_err-bounds.field-0.0 _
      c.from_residual.ensures.1;
  faults = λ h items there asked few.
      let node : NodeContent = record { level = c.args.at.level; entries = items } in
      at_error c.from_residual.result c.in_err-bounds.field-0.0 (IsNoDamage c.add_entry.new.cache)
      c.from_residual.ensures.1
      (inl (c.in_err-bounds.ensures.faults h.honest node there refl));
  sound = λ h. no_success c.from_residual.result c.in_err-bounds.field-0.0 _ c.from_residual.ensures.1;
  damaged = λ h.
      let f = c.in_err-bounds.field-0.0 in
      at_error c.from_residual.result f
      _ c.from_residual.ensures.1
      (⊎_elim (λ (device : IsOfDevice f). inl (inl device)) (λ (is : f ≡ fault.Damaged c.args.at.page). inr
      is)
      (c.in_err-bounds.ensures.named h.honest));
  other_faults = at_error c.from_residual.result c.in_err-bounds.field-0.0 (IsChangeFault c.add_entry.new.cache)
      c.from_residual.ensures.1 (one_more _ _ _ c.in_err-bounds.ensures.other_faults);
}

-- ---- it is added where there is room

pub add_entry-requires : goal.add_entry-requires
add_entry-requires g c =
    (search rules, (search rules, (omega (arith, c.entries-most.ensures, c.args.limits.fanout.within), c.requires.refers)))
