-- The page that is viewed is that of the node.
use Rattle.std.proofs.Common.{rules, ◌∙◌, ◌<◌, ◌≤◌, ℕ, length, ap, subst, arith, refl}
use Rattle.page_cache.specs.Cache.{pages}
use Rattle.page_cache.specs.Calls.{AsksUntil, fault_in}
use Rattle.box_math.specs.Bounds.{Within}
use Rattle.tree_node.specs.Boxes.{box_at, no_item}
use Rattle.tree_node.specs.Nodes.{Item, NodeContent, item_of}
use Rattle.node_page.specs.Standing.{PageMap}
use Rattle.node_bytes.specs.Views.{content_in}
use Rattle.node_page.proofs.StandingLemmas.{page_of_node, same_content}
use Rattle.reinsert.proofs.FaultLemmas.{asks_refused, no_answer, no_success}
use Rattle.node_page.proofs.NodeLemmas.{at_error}
use Rattle.std.proofs.lemmas.List.{get_or_default}
use Rattle.page_file.specs.Fault.{IsOfDevice}
use Rattle.condense.proofs.HoldLemmas.{refers_down}
use Rattle.condense.proofs.look.next_child.Goals as goal

pub overflow_cast-result : goal.overflow_cast-result
overflow_cast-result g c =
    let view : NodeContent = content_in c.in_ok-node.node in
    let down = refers_down view c.next_enclosing-place.result (item_of c.entry.result) c.in_ok-node.ensures.spellable
    (omega (arith, c.if-place-len.false, c.len.ensures.count))
    (omega (arith, c.requires.above, c.in_ok-node.ensures.level)) c.entry.ensures in
    omega (arith, down.1)

pub returns-in_err-node : goal.returns-in_err-node
returns-in_err-node g c = record {
  asks = asks_refused c.args.cache.now c.view_node.follows.lender-at-none c.in_err-node.field-0.0
      c.from_residual.result c.from_residual.ensures.1
      (subst (λ x. AsksUntil c.args.cache.now c.view_node.follows.lender-at-none (fault_in x))
      c.in_err-node.was (search rules));
  looks = no_success c.from_residual.result c.in_err-node.field-0.0 _ c.from_residual.ensures.1;
  is_next = no_answer c.from_residual.result c.in_err-node.field-0.0 _ c.from_residual.ensures.1;
  place = no_answer c.from_residual.result c.in_err-node.field-0.0 _ c.from_residual.ensures.1;
  given_node = λ h. no_answer c.from_residual.result c.in_err-node.field-0.0 _ c.from_residual.ensures.1;
  encloses = λ h content there. no_answer c.from_residual.result c.in_err-node.field-0.0 _
      c.from_residual.ensures.1;
  before = λ h content there. no_answer c.from_residual.result c.in_err-node.field-0.0 _
      c.from_residual.ensures.1;
  none = λ h content there. no_answer c.from_residual.result c.in_err-node.field-0.0 _
      c.from_residual.ensures.1;
  there = λ h content there level. at_error c.from_residual.result c.in_err-node.field-0.0 IsOfDevice
      c.from_residual.ensures.1 (c.in_err-node.ensures.there h content there level);
  faults = λ h. at_error c.from_residual.result c.in_err-node.field-0.0
      _ c.from_residual.ensures.1
      (c.in_err-node.ensures.faults h);
  other_faults = at_error c.from_residual.result c.in_err-node.field-0.0 _
      c.from_residual.ensures.1 c.in_err-node.ensures.other_faults;
}

pub returns-then-place-len : goal.returns-then-place-len
returns-then-place-len g c = record {
  asks = search rules;
  looks = search rules;
  is_next = tt;
  place = tt;
  given_node = λ h. tt;
  encloses = λ h content there. tt;
  before = λ h content there. tt;
  none = λ h content there.
      let D = g.row.D in
      let m : PageMap = pages c.args.cache.now in
      let view : NodeContent = content_in c.in_ok-node.node in
      let same =
      same_content D m c.args.at.page view content
      (c.in_ok-node.ensures.node h (page_of_node D (m c.args.at.page) content there)) there in
      subst (λ (x : NodeContent). (k : ℕ) → c.args.from ≤ k → k < length x.entries
      → ¬ Within D c.args.bounds.now (box_at x.entries k)) same
      (λ k low lt. c.next_enclosing-place.ensures.none k low
      (omega (arith, lt, c.if-place-len.true, c.len.ensures.count)) lt);
  there = λ h content there level. tt;
  faults = λ h. tt;
  other_faults = tt;
}

pub returns : goal.returns
returns g c =
    let view : NodeContent = content_in c.in_ok-node.node in
    let place = c.next_enclosing-place.result in
    let within : place < length view.entries = omega (arith, c.if-place-len.false, c.len.ensures.count) in
    let down = refers_down view place (item_of c.entry.result) c.in_ok-node.ensures.spellable within
    (omega (arith, c.requires.above, c.in_ok-node.ensures.level)) c.entry.ensures in
    record {
      asks = search rules;
      looks = search rules;
      is_next = record { above = c.requires.above; level = refl; page = down.0 };
      place = (c.next_enclosing-place.ensures.within, omega (arith, within, c.len.ensures.count, c.len.ensures.few));
      given_node = λ h. record {
        node = view;
        there = c.in_ok-node.ensures.given_node h;
        level_is = c.in_ok-node.ensures.level;
        within = within;
        names = ap (λ (x : Item). x.reference)
            (c.entry.ensures ∙ get_or_default view.entries place (item_of c.entry.result) no_item within);
      };
      encloses = λ h content there.
          let D = g.row.D in
          let m : PageMap = pages c.args.cache.now in
          let same =
          same_content D m c.args.at.page view content
          (c.in_ok-node.ensures.node h (page_of_node D (m c.args.at.page) content there)) there in
          subst (λ (x : NodeContent). Within D c.args.bounds.now (box_at x.entries place)) same
          (c.next_enclosing-place.ensures.encloses within);
      before = λ h content there.
          let D = g.row.D in
          let m : PageMap = pages c.args.cache.now in
          let same =
          same_content D m c.args.at.page view content
          (c.in_ok-node.ensures.node h (page_of_node D (m c.args.at.page) content there)) there in
          subst (λ (x : NodeContent). (k : ℕ) → c.args.from ≤ k → k < place → k < length x.entries
          → ¬ Within D c.args.bounds.now (box_at x.entries k)) same
          (λ k low below lt. c.next_enclosing-place.ensures.none k low below lt);
      none = λ h content there. tt;
      there = λ h content there level. tt;
      faults = λ h. tt;
      other_faults = tt;
    }
