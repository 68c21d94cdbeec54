-- No page is marked.
use Rattle.node_page.proofs.VisitLemmas.{none_visited}
use Rattle.node_page.proofs.visits.Visits.new.Goals as goal

pub invariant_of-result : goal.invariant_of-result
invariant_of-result g c =
    record {
      marked =
          none_visited c.args.next _ _ c.new-pages.ensures.items
          (c.in_ok-marks.ensures.items_if_clones_equal (λ y same. same));
    }
