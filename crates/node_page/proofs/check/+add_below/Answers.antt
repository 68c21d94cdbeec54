-- The goals of `add_below` that are proved by hand.
use Rattle.std.proofs.Common.{◌≡◌, ◌∙◌, ◌⊎◌, ℕ, ◌-◌, ◌<◌, None, length, map, ap, inl, refl, subst, sym}
use Rattle.std.proofs.Common.{⊎_elim, arith}
use Rattle.std.proofs.lemmas.List.{length-map}
use Rattle.block_device.specs.Device.{one_more}
use Rattle.page_file.specs.Fault.{IsDamage, IsOfDevice}
use Rattle.page_file.specs.declared.fault.Fault.TheVariants as fault
use Rattle.page_cache.specs.Cache.{given, looks_of}
use Rattle.page_cache.specs.Calls.{asks_and_refuses, asks_in_turn, no_call_asks}
use Rattle.tree_node.specs.Nodes.{content_of, item_of}
use Rattle.node_page.proofs.CheckLemmas.{adds_on, checked_all, checked_more, checked_none, leaf_adds}
use Rattle.node_page.proofs.CheckLemmas.{next_fits, next_here, next_node, next_unvisited, next_visited}
use Rattle.node_page.proofs.CheckLemmas.{one_longer, quiet_visit, refuses_quietly, visit_faults}
use Rattle.tree_node.proofs.RowLemmas.{entry_item}
use Rattle.node_page.specs.Checked.{ComesBelow}
use Rattle.node_page.specs.Standing.{RowStands, node_in}
use Rattle.node_page.specs.Visits.{times_in}
use Rattle.node_page.proofs.DamageLemmas.{comes_below_child, comes_below_so, comes_to_child, damaged_read}
use Rattle.node_page.proofs.DamageLemmas.{damaged_visit, entry_names}
use Rattle.node_page.proofs.GivenLemmas.{node_was_given_out}
use Rattle.node_page.proofs.LeafLemmas.{child_page, child_tag}
use Rattle.node_page.proofs.StandingLemmas.{row_stays}
use Rattle.node_page.proofs.NodeLemmas.{at_error, if_error, on_ok}
use Rattle.node_page.proofs.check.+add_below.Goals as goal

pub returns-then-node-eq0-clause-found : goal.returns-then-node-eq0-clause-found
returns-then-node-eq0-clause-found g t c = λ h.
    on_ok c.add_pairs.result
    (λ added. leaf_adds g.row.D c.args.fanout (given c.args.cache.now) (content_of c.args.node.now)
    c.args.pairs.now.items c.add_pairs.new.pairs.items c.args.visits.now.pages.items c.if-node-eq0.true
    added)
    c.add_pairs.ensures.pairs

pub loop-entry-init : goal.loop-entry-init
loop-entry-init g t c = record {
  asks = no_call_asks c.args.cache.now;
  checked =
      λ h. checked_none g.row.D c.args.fanout (given c.args.cache.now) c.args.node.now.level
      (map item_of c.as_slice-entry-items.result.now) c.args.pairs.now.items c.args.visits.now.pages.items;
  numbers = omega arith;
  looks = omega arith;
}

pub overflow_cast-page : goal.overflow_cast-page
overflow_cast-page g t c =
    omega (
      arith,
      child_page c.args.node.now.level c.args.node.now.entries.items c.as_slice-entry-items.result.now
          c.loop-entry.entry-index c.entry-item.result c.requires.spellable.refers
          c.as_slice-entry-items.ensures.value (omega (arith, c.loop-entry-test.true)) c.entry-item.is
          (omega (arith, c.if-node-eq0.false)),
    )

pub returns-clause-found : goal.returns-clause-found
returns-clause-found g t c = λ h.
    checked_all g.row.D c.args.fanout (given c.args.cache.now) c.args.node.now.level
    (map item_of c.as_slice-entry-items.result.now) c.args.pairs.now.items c.args.visits.now.pages.items
    c.loop-entry.entry-index
    (content_of c.args.node.now) c.loop-entry.pairs.items c.loop-entry.visits.pages.items
    (omega (arith, c.loop-entry-test.false, length-map c.as_slice-entry-items.result.now item_of))
    (omega arith)
    (ap (map item_of) (sym c.as_slice-entry-items.ensures.value)) (c.loop-entry.invariant.checked h)

pub returns-in_err-visit-clause-asks : goal.returns-in_err-visit-clause-asks
returns-in_err-visit-clause-asks g t c =
    refuses_quietly c.args.cache.now c.loop-entry.cache c.in_err-visit.field-0.0 c.from_residual.result
    c.from_residual.ensures.1 c.loop-entry.invariant.asks
    (quiet_visit c.in_err-visit.field-0.0 _ c.in_err-visit.ensures.faults)

pub returns-in_err-below-clause-asks : goal.returns-in_err-below-clause-asks
returns-in_err-below-clause-asks g t c =
    asks_and_refuses c.args.cache.now c.loop-entry.cache c.read_node.new.cache c.in_err-below.field-0.0
    c.from_residual-in_err-below.result c.from_residual-in_err-below.ensures.1 c.loop-entry.invariant.asks
    c.in_err-below.ensures.asks

pub returns-then-not-fits_below-clause-asks : goal.returns-then-not-fits_below-clause-asks
returns-then-not-fits_below-clause-asks g t c =
    let a = asks_in_turn c.args.cache.now c.loop-entry.cache c.read_node.new.cache None
    c.loop-entry.invariant.asks c.in_ok-below.ensures.asks in
    record {
      gate = a.gate;
      map = a.map;
      capacity = a.capacity;
      looks = a.looks;
      touched = a.touched;
      faults = a.faults;
    }

pub returns-in_err-add_below-clause-asks : goal.returns-in_err-add_below-clause-asks
returns-in_err-add_below-clause-asks g t c =
    let a = asks_in_turn c.args.cache.now c.loop-entry.cache c.read_node.new.cache None
    c.loop-entry.invariant.asks c.in_ok-below.ensures.asks in
    asks_and_refuses c.args.cache.now c.read_node.new.cache c.add_below.new.cache
    c.in_err-add_below.field-0.0 c.from_residual-in_err-add_below.result
    c.from_residual-in_err-add_below.ensures.1 a c.in_err-add_below.ensures.asks

pub returns-in_err-visit-clause-other_faults : goal.returns-in_err-visit-clause-other_faults
returns-in_err-visit-clause-other_faults g t c =
    at_error c.from_residual.result c.in_err-visit.field-0.0 (λ f. IsOfDevice f ⊎ IsDamage f)
    c.from_residual.ensures.1 (visit_faults c.in_err-visit.field-0.0 _ c.in_err-visit.ensures.faults)

pub returns-in_err-below-clause-looks : goal.returns-in_err-below-clause-looks
returns-in_err-below-clause-looks g t c =
    let more =
    one_longer c.loop-entry.visits.pages.items c.visit.new.self.pages.items _
    c.in_ok-visit.ensures.added in
    ⊎_elim
    (λ (same : looks_of c.read_node.new.cache ≡ looks_of c.loop-entry.cache). omega
    (arith, same, more, c.loop-entry.invariant.looks))
    (λ (one : looks_of c.read_node.new.cache ≡ one_more (looks_of c.loop-entry.cache)). omega
    (arith, one, more, c.loop-entry.invariant.looks))
    c.in_err-below.ensures.refused_looks

pub returns-in_err-visit-clause-stands : goal.returns-in_err-visit-clause-stands
returns-in_err-visit-clause-stands g t c = λ h row is stands shape once.
    let inv = c.loop-entry.invariant in
    let entry = c.entry-item.result in
    let x = item_of entry in
    let items = map item_of c.as_slice-entry-items.result.now in
    let same = ap (map item_of) (sym c.as_slice-entry-items.ensures.value) in
    let within : c.loop-entry.entry-index < length items =
    omega (arith, length-map c.as_slice-entry-items.result.now item_of, c.loop-entry-test.true) in
    let here =
    entry_item c.as_slice-entry-items.result.now c.loop-entry.entry-index entry
    (omega (arith, c.loop-entry-test.true)) c.entry-item.is in
    let next =
    next_here g.row.D c.args.fanout (given c.args.cache.now) c.args.node.now.level items
    c.args.pairs.now.items c.loop-entry.pairs.items c.args.visits.now.pages.items
    c.loop-entry.visits.pages.items c.loop-entry.entry-index x row
    (omega (arith, c.if-node-eq0.false)) within here (inv.checked h) (is ∙ same) stands shape once in
    let out = node_was_given_out g.row.D c.args.cache.now entry.reference _ next.node in
    let free : times_in entry.reference c.loop-entry.visits.pages.items ≡ 0 =
    next_unvisited g.row.D c.args.fanout (given c.args.cache.now) (c.args.node.now.level - 1) x
    c.loop-entry.visits.pages.items next in
    at_error c.from_residual.result c.in_err-visit.field-0.0 IsOfDevice c.from_residual.ensures.1
    (inl (c.in_err-visit.ensures.first free (omega (arith, out.1, inv.numbers, c.requires.numbers))))

pub returns-in_err-below-clause-stands : goal.returns-in_err-below-clause-stands
returns-in_err-below-clause-stands g t c = λ h row is stands shape once.
    let inv = c.loop-entry.invariant in
    let entry = c.entry-item.result in
    let x = item_of entry in
    let items = map item_of c.as_slice-entry-items.result.now in
    let same = ap (map item_of) (sym c.as_slice-entry-items.ensures.value) in
    let within : c.loop-entry.entry-index < length items =
    omega (arith, length-map c.as_slice-entry-items.result.now item_of, c.loop-entry-test.true) in
    let here =
    entry_item c.as_slice-entry-items.result.now c.loop-entry.entry-index entry
    (omega (arith, c.loop-entry-test.true)) c.entry-item.is in
    let next =
    next_here g.row.D c.args.fanout (given c.args.cache.now) c.args.node.now.level items
    c.args.pairs.now.items c.loop-entry.pairs.items c.args.visits.now.pages.items
    c.loop-entry.visits.pages.items c.loop-entry.entry-index x row
    (omega (arith, c.if-node-eq0.false)) within here (inv.checked h) (is ∙ same) stands shape once in
    at_error c.from_residual-in_err-below.result c.in_err-below.field-0.0 IsOfDevice
    c.from_residual-in_err-below.ensures.1
    (c.in_err-below.ensures.given_there (inv.asks.gate.honest.0 h) _
    (ap (node_in g.row.D) (inv.asks.map.given_stay h entry.reference) ∙ next.node) refl)

pub returns-then-not-fits_below-clause-stands : goal.returns-then-not-fits_below-clause-stands
returns-then-not-fits_below-clause-stands g t c = λ h row is stands shape once.
    let inv = c.loop-entry.invariant in
    let entry = c.entry-item.result in
    let x = item_of entry in
    let items = map item_of c.as_slice-entry-items.result.now in
    let same = ap (map item_of) (sym c.as_slice-entry-items.ensures.value) in
    let within : c.loop-entry.entry-index < length items =
    omega (arith, length-map c.as_slice-entry-items.result.now item_of, c.loop-entry-test.true) in
    let here =
    entry_item c.as_slice-entry-items.result.now c.loop-entry.entry-index entry
    (omega (arith, c.loop-entry-test.true)) c.entry-item.is in
    let next =
    next_here g.row.D c.args.fanout (given c.args.cache.now) c.args.node.now.level items
    c.args.pairs.now.items c.loop-entry.pairs.items c.args.visits.now.pages.items
    c.loop-entry.visits.pages.items c.loop-entry.entry-index x row
    (omega (arith, c.if-node-eq0.false)) within here (inv.checked h) (is ∙ same) stands shape once in
    let there = ap (node_in g.row.D) (sym (inv.asks.map.given_stay h entry.reference))
    ∙ c.in_ok-below.ensures.given_node (inv.asks.gate.honest.0 h) in
    let fits =
    c.fits_below.ensures.1
    (next_fits g.row.D c.args.fanout (given c.args.cache.now) (c.args.node.now.level - 1) x
    c.loop-entry.visits.pages.items (content_of c.in_ok-below.below) next there
    c.in_ok-below.ensures.boxes) in
    absurd (cc)

pub returns-in_err-add_below-clause-stands : goal.returns-in_err-add_below-clause-stands
returns-in_err-add_below-clause-stands g t c = λ h row is stands shape once.
    let inv = c.loop-entry.invariant in
    let entry = c.entry-item.result in
    let x = item_of entry in
    let items = map item_of c.as_slice-entry-items.result.now in
    let same = ap (map item_of) (sym c.as_slice-entry-items.ensures.value) in
    let within : c.loop-entry.entry-index < length items =
    omega (arith, length-map c.as_slice-entry-items.result.now item_of, c.loop-entry-test.true) in
    let here =
    entry_item c.as_slice-entry-items.result.now c.loop-entry.entry-index entry
    (omega (arith, c.loop-entry-test.true)) c.entry-item.is in
    let next =
    next_here g.row.D c.args.fanout (given c.args.cache.now) c.args.node.now.level items
    c.args.pairs.now.items c.loop-entry.pairs.items c.args.visits.now.pages.items
    c.loop-entry.visits.pages.items c.loop-entry.entry-index x row
    (omega (arith, c.if-node-eq0.false)) within here (inv.checked h) (is ∙ same) stands shape once in
    let there = ap (node_in g.row.D) (sym (inv.asks.map.given_stay h entry.reference))
    ∙ c.in_ok-below.ensures.given_node (inv.asks.gate.honest.0 h) in
    let node =
    next_node g.row.D c.args.fanout (given c.args.cache.now) (c.args.node.now.level - 1) x
    c.loop-entry.visits.pages.items (content_of c.in_ok-below.below) next there in
    let a = asks_in_turn c.args.cache.now c.loop-entry.cache c.read_node.new.cache None inv.asks
    c.in_ok-below.ensures.asks in
    let level : c.args.node.now.level - 1 ≡ c.in_ok-below.below.level = sym node.1 in
    at_error c.from_residual-in_err-add_below.result c.in_err-add_below.field-0.0 IsOfDevice
    c.from_residual-in_err-add_below.ensures.1
    (c.in_err-add_below.ensures.stands (a.gate.honest.0 h) next.below node.0
    (row_stays g.row.D (given c.args.cache.now) (given c.read_node.new.cache) c.in_ok-below.below.level
    next.below (λ n some. a.map.given_stay h n)
    (subst (λ (l : ℕ). RowStands g.row.D (given c.args.cache.now) l next.below) level next.stands))
    next.shape
    (next_visited g.row.D c.args.fanout (given c.args.cache.now) (c.args.node.now.level - 1) x
    c.loop-entry.visits.pages.items c.visit.new.self.pages.items next c.in_ok-visit.ensures.added))

pub loop-entry-preserved : goal.loop-entry-preserved
loop-entry-preserved g t c =
    let inv = c.loop-entry.invariant in
    let entry = c.entry-item.result in
    let x = item_of entry in
    let items = map item_of c.as_slice-entry-items.result.now in
    let same = ap (map item_of) (sym c.as_slice-entry-items.ensures.value) in
    let within : c.loop-entry.entry-index < length items =
    omega (arith, length-map c.as_slice-entry-items.result.now item_of, c.loop-entry-test.true) in
    let here =
    entry_item c.as_slice-entry-items.result.now c.loop-entry.entry-index entry
    (omega (arith, c.loop-entry-test.true)) c.entry-item.is in
    let a = asks_in_turn c.args.cache.now c.loop-entry.cache c.read_node.new.cache None inv.asks
    c.in_ok-below.ensures.asks in
    let fits = c.fits_below.ensures.0 c.if-not-fits_below.false in
    let untagged =
    child_tag c.args.node.now.level c.args.node.now.entries.items c.as_slice-entry-items.result.now
    c.loop-entry.entry-index entry c.requires.spellable.refers c.as_slice-entry-items.ensures.value
    (omega (arith, c.loop-entry-test.true)) c.entry-item.is (omega (arith, c.if-node-eq0.false)) in
    record {
      asks = asks_in_turn c.args.cache.now c.read_node.new.cache c.add_below.new.cache None a
          c.in_ok-add_below.ensures.asks;
      checked = λ h.
          let there = ap (node_in g.row.D) (sym (inv.asks.map.given_stay h entry.reference))
          ∙ c.in_ok-below.ensures.given_node (inv.asks.gate.honest.0 h) in
          checked_more g.row.D c.args.fanout (given c.args.cache.now) c.args.node.now.level items
          c.args.pairs.now.items c.args.visits.now.pages.items c.loop-entry.entry-index x
          (content_of c.in_ok-below.below)
          c.loop-entry.pairs.items c.add_below.new.pairs.items c.loop-entry.visits.pages.items
          c.visit.new.self.pages.items c.add_below.new.visits.pages.items
          (omega (arith, c.if-node-eq0.false)) untagged within here (inv.checked h)
          c.in_ok-visit.ensures.added
          (record {
            there = there;
            at_level = c.in_ok-below.ensures.level;
            boxes = c.in_ok-below.ensures.boxes;
            least = fits.0;
            few = fits.1;
            box = fits.2;
          })
          (adds_on g.row.D c.args.fanout (given c.read_node.new.cache) (given c.args.cache.now)
          (content_of c.in_ok-below.below) c.loop-entry.pairs.items c.add_below.new.pairs.items
          c.visit.new.self.pages.items c.add_below.new.visits.pages.items
          (λ n. sym (a.map.given_stay h n)) (c.in_ok-add_below.ensures.found (a.gate.honest.0 h)));
      numbers = omega (arith, inv.numbers, c.in_ok-visit.ensures.marks, c.in_ok-add_below.ensures.numbers);
      looks = omega (
        arith,
        one_longer c.loop-entry.visits.pages.items c.visit.new.self.pages.items _
            c.in_ok-visit.ensures.added,
        c.in_ok-below.ensures.looks,
        c.in_ok-add_below.ensures.looks,
        inv.looks,
      );
    }

pub returns-then-node-eq0-clause-damage : goal.returns-then-node-eq0-clause-damage
returns-then-node-eq0-clause-damage g t c = λ h.
    if_error c.add_pairs.result
    (λ f. f ≡ fault.Memory)
    (λ f. (n : ℕ) → f ≡ fault.Damaged n
    → ComesBelow g.row.D (given c.args.cache.now) (content_of c.args.node.now) n)
    (λ f (memory : f ≡ fault.Memory) n (damaged : f ≡ fault.Damaged n). absurd (cc))
    c.add_pairs.ensures.memory

pub returns-in_err-visit-clause-damage : goal.returns-in_err-visit-clause-damage
returns-in_err-visit-clause-damage g t c = λ h.
    let entry = c.entry-item.result in
    let items = map item_of c.as_slice-entry-items.result.now in
    let same = ap (map item_of) (sym c.as_slice-entry-items.ensures.value) in
    let within : c.loop-entry.entry-index < length items =
    omega (arith, length-map c.as_slice-entry-items.result.now item_of, c.loop-entry-test.true) in
    let here =
    entry_item c.as_slice-entry-items.result.now c.loop-entry.entry-index entry
    (omega (arith, c.loop-entry-test.true)) c.entry-item.is in
    let names =
    entry_names (content_of c.args.node.now) items c.loop-entry.entry-index (item_of entry) same
    (omega (arith, c.if-node-eq0.false)) within here in
    at_error c.from_residual.result c.in_err-visit.field-0.0
    (λ f. (n : ℕ) → f ≡ fault.Damaged n
    → ComesBelow g.row.D (given c.args.cache.now) (content_of c.args.node.now) n)
    c.from_residual.ensures.1
    (λ n damaged. comes_to_child g.row.D (given c.args.cache.now) (content_of c.args.node.now)
    entry.reference n names
    (damaged_visit c.in_err-visit.field-0.0 entry.reference n c.in_err-visit.ensures.faults damaged))

pub returns-in_err-below-clause-damage : goal.returns-in_err-below-clause-damage
returns-in_err-below-clause-damage g t c = λ h.
    let entry = c.entry-item.result in
    let items = map item_of c.as_slice-entry-items.result.now in
    let same = ap (map item_of) (sym c.as_slice-entry-items.ensures.value) in
    let within : c.loop-entry.entry-index < length items =
    omega (arith, length-map c.as_slice-entry-items.result.now item_of, c.loop-entry-test.true) in
    let here =
    entry_item c.as_slice-entry-items.result.now c.loop-entry.entry-index entry
    (omega (arith, c.loop-entry-test.true)) c.entry-item.is in
    let names =
    entry_names (content_of c.args.node.now) items c.loop-entry.entry-index (item_of entry) same
    (omega (arith, c.if-node-eq0.false)) within here in
    at_error c.from_residual-in_err-below.result c.in_err-below.field-0.0
    (λ f. (n : ℕ) → f ≡ fault.Damaged n
    → ComesBelow g.row.D (given c.args.cache.now) (content_of c.args.node.now) n)
    c.from_residual-in_err-below.ensures.1
    (λ n damaged. comes_to_child g.row.D (given c.args.cache.now) (content_of c.args.node.now)
    entry.reference n names
    (damaged_read c.in_err-below.field-0.0 entry.reference n
    (c.in_err-below.ensures.faults (c.loop-entry.invariant.asks.gate.honest.0 h)) damaged))

pub returns-then-not-fits_below-clause-damage : goal.returns-then-not-fits_below-clause-damage
returns-then-not-fits_below-clause-damage g t c =
    λ h n (damaged : fault.Damaged c.entry-item.result.reference ≡ fault.Damaged n).
    let entry = c.entry-item.result in
    let items = map item_of c.as_slice-entry-items.result.now in
    let same = ap (map item_of) (sym c.as_slice-entry-items.ensures.value) in
    let within : c.loop-entry.entry-index < length items =
    omega (arith, length-map c.as_slice-entry-items.result.now item_of, c.loop-entry-test.true) in
    let here =
    entry_item c.as_slice-entry-items.result.now c.loop-entry.entry-index entry
    (omega (arith, c.loop-entry-test.true)) c.entry-item.is in
    let names =
    entry_names (content_of c.args.node.now) items c.loop-entry.entry-index (item_of entry) same
    (omega (arith, c.if-node-eq0.false)) within here in
    comes_to_child g.row.D (given c.args.cache.now) (content_of c.args.node.now) entry.reference n names (cc)

pub returns-in_err-add_below-clause-damage : goal.returns-in_err-add_below-clause-damage
returns-in_err-add_below-clause-damage g t c = λ h.
    let entry = c.entry-item.result in
    let items = map item_of c.as_slice-entry-items.result.now in
    let same = ap (map item_of) (sym c.as_slice-entry-items.ensures.value) in
    let within : c.loop-entry.entry-index < length items =
    omega (arith, length-map c.as_slice-entry-items.result.now item_of, c.loop-entry-test.true) in
    let here =
    entry_item c.as_slice-entry-items.result.now c.loop-entry.entry-index entry
    (omega (arith, c.loop-entry-test.true)) c.entry-item.is in
    let names =
    entry_names (content_of c.args.node.now) items c.loop-entry.entry-index (item_of entry) same
    (omega (arith, c.if-node-eq0.false)) within here in
    let inv = c.loop-entry.invariant in
    let a = asks_in_turn c.args.cache.now c.loop-entry.cache c.read_node.new.cache None inv.asks
    c.in_ok-below.ensures.asks in
    let there = ap (node_in g.row.D) (sym (inv.asks.map.given_stay h entry.reference))
    ∙ c.in_ok-below.ensures.given_node (inv.asks.gate.honest.0 h) in
    at_error c.from_residual-in_err-add_below.result c.in_err-add_below.field-0.0
    (λ f. (n : ℕ) → f ≡ fault.Damaged n
    → ComesBelow g.row.D (given c.args.cache.now) (content_of c.args.node.now) n)
    c.from_residual-in_err-add_below.ensures.1
    (λ n damaged. comes_below_child g.row.D (given c.args.cache.now) (content_of c.args.node.now)
    (content_of c.in_ok-below.below) entry.reference n names there
    (comes_below_so g.row.D (given c.args.cache.now) (given c.read_node.new.cache)
    (content_of c.in_ok-below.below) n (λ k. a.map.given_stay h k)
    (c.in_err-add_below.ensures.damage (a.gate.honest.0 h) n damaged)))
