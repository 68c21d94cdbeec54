-- The leaf that is viewed is the one in the page.
use Rattle.std.proofs.Common.{rules, IfNone, IfSome, ◌≡◌, ◌<◌, ℕ, get_or, length, subst}
use Rattle.page_file.specs.Fault.{IsOfDevice}
use Rattle.page_cache.specs.Cache.{pages}
use Rattle.page_cache.specs.Calls.{AsksUntil, fault_in}
use Rattle.tree_node.specs.Nodes.{Item, NodeContent}
use Rattle.node_page.specs.Standing.{PageMap}
use Rattle.node_bytes.specs.Views.{content_in}
use Rattle.node_page.proofs.NodeLemmas.{at_error}
use Rattle.node_page.proofs.StandingLemmas.{page_of_node, same_content}
use Rattle.reinsert.proofs.FaultLemmas.{asks_refused, no_answer, no_success}
use Rattle.condense.proofs.RemoveLemmas.{some_both, some_weaker}
use Rattle.condense.proofs.leaf.find_here.Goals as goal

pub returns-in_err-leaf : goal.returns-in_err-leaf
returns-in_err-leaf g c =
    let f = c.in_err-leaf.field-0.0 in
    let r = c.from_residual.result in
    let is = c.from_residual.ensures.1 in
    let err = c.in_err-leaf.ensures in
    record {
      asks = asks_refused c.args.cache.now c.view_node.follows.lender-at-none f r is
          (subst (λ x. AsksUntil c.args.cache.now c.view_node.follows.lender-at-none (fault_in x))
          c.in_err-leaf.was (search rules));
      looks = no_success r f _ is;
      found = λ h x there. no_answer r f _ is;
      first = λ h x there. no_answer r f _ is;
      none = λ h x there. no_answer r f _ is;
      given_leaf = λ h. no_answer r f _ is;
      there = λ h x there level. at_error r f IsOfDevice is (err.there h x there level);
      faults = λ h. at_error r f _ is (err.faults h);
      other_faults = at_error r f _ is err.other_faults;
    }

pub returns : goal.returns
returns g c =
    let D = g.row.D in
    let m : PageMap = pages c.args.cache.now in
    let view : NodeContent = content_in c.in_ok-leaf.leaf in
    let found = c.position_of.ensures in
    let object : Item = record {
      bounds = c.args.object.now.bounds;
      reference = c.args.object.now.reference;
      tag = c.args.object.now.tag;
    } in
    record {
      asks = search rules;
      looks = search rules;
      found = λ h x there.
          let same = same_content D m c.args.page view x
          (c.in_ok-leaf.ensures.node h (page_of_node D (m c.args.page) x there)) there in
          subst (λ (y : NodeContent). IfSome c.position_of.result (λ at. (d : Item) → (at < length y.entries)
          × (get_or y.entries at d ≡ object))) same
          (some_both c.position_of.result _ _ _ found.within found.found (λ at within is d. (within, is d)));
      first = λ h x there.
          let same = same_content D m c.args.page view x
          (c.in_ok-leaf.ensures.node h (page_of_node D (m c.args.page) x there)) there in
          subst (λ (y : NodeContent). IfSome c.position_of.result (λ at. (k : ℕ) → k < at → (d : Item)
          → ¬ (get_or y.entries k d ≡ object))) same found.first;
      none = λ h x there.
          let same = same_content D m c.args.page view x
          (c.in_ok-leaf.ensures.node h (page_of_node D (m c.args.page) x there)) there in
          subst (λ (y : NodeContent). IfNone c.position_of.result ((at : ℕ) (d : Item) → at < length y.entries
          → ¬ (get_or y.entries at d ≡ object))) same found.none;
      given_leaf = λ h. some_weaker c.position_of.result _ _ (λ at within. record {
        node = view;
        there = c.in_ok-leaf.ensures.given_node h;
        level_is = c.in_ok-leaf.ensures.level;
        within = within;
      }) found.within;
      there = λ h x there level. tt;
      faults = λ h. tt;
      other_faults = tt;
    }
