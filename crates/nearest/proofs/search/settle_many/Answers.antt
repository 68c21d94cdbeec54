-- The goals of `settle_many` that are proved by hand.
use Rattle.std.proofs.Common.{◌≡◌, ◌∙◌, ◌++◌, [], List, All, IsPermutation, ap, sym, subst}
use Rattle.std.proofs.lemmas.List.{append-nil}
use Rattle.nearest.specs.declared.candidate.Candidate.{Candidate}
use Rattle.nearest.specs.Candidates.{Past}
use Rattle.nearest.proofs.SearchLemmas.{on_ok_both}
use Rattle.nearest.proofs.search.settle_many.Goals as goal

pub returns-clause-all : goal.returns-clause-all
returns-clause-all g c =
    let waiting = c.settle.new.queue in
    let before = c.args.queue.now ++ c.args.fresh.now.items in
    let past : List Candidate → Type 0 = λ gone. All (λ x. Past x.distance c.args.k c.args.best.now) gone in
    on_ok_both c.settle.result
    (λ (none : c.settle.new.fresh.items ≡ [])
    (all : (gone : List Candidate) × IsPermutation before (waiting ++ gone) × past gone).
    let same : waiting ≡ waiting ++ c.settle.new.fresh.items = sym (append-nil waiting)
    ∙ ap (λ (cs : List Candidate). waiting ++ cs) (sym none) in
    (all.0, subst (λ (cs : List Candidate). IsPermutation before (cs ++ all.0)) same all.1, all.2))
    c.settle.ensures.none_left c.settle.ensures.all
