-- One page more is marked.
use Rattle.std.proofs.Common.{◌≡◌, ◌∙◌, ◌<◌, ℕ, List, Bool, false, length, sym, ap, subst, get_or}
use Rattle.std.proofs.Math.ListN.{set}
use Rattle.std.specs.Prelude.{true}
use Rattle.node_page.specs.Visits.{AreMarked}
use Rattle.node_page.proofs.VisitLemmas.{one_visited}
use Rattle.node_page.proofs.visits.Visits.visit.Goals as goal

pub invariant_of-self-2 : goal.invariant_of-self-2
invariant_of-self-2 g c =
    let old = c.args.self.now in
    let page = c.args.page in
    let found = c.in-Some-false.ensures.lookup.3 in
    let same = c.deref.ensures.value in
    let within : page < length old.marks.items =
    subst (λ (marks : List Bool). page < length marks) same found.0 in
    let clear : get_or old.marks.items page false ≡ false =
    ap (λ (marks : List Bool). get_or marks page false) (sym same) ∙ sym (found.1 false)
    ∙ c.in-Some-false.field-0-test in
    record {
      marked =
          subst (λ (list : List ℕ). AreMarked list (set old.marks.items page true))
          (sym c.in_ok-push.ensures.items)
          (one_visited old.pages.items old.marks.items page old.marked within clear);
    }
