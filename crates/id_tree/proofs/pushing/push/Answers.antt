-- The object is in the page that was edited.
use Rattle.std.proofs.Common.{◌∙◌, ap, sym, subst, ◌++◌, ◌∷◌, []}
use Rattle.page_cache.specs.Cache.{pages, next_of}
use Rattle.page_cache.specs.Laws.{a_live_page_is_given}
use Rattle.id_page.specs.Leaf.{leaf_at, IsTidyLeaf}
use Rattle.id_words.proofs.Results.{ok_of}
use Rattle.id_tree.specs.Tree.{leaf_in}
use Rattle.id_tree.proofs.NodeLemmas.{bytes_of_leaf, there_of_leaf}
use Rattle.id_tree.proofs.TidyLemmas.{bytes_tidy, leaf_node, tidy_leaf, tidy_written}
use Rattle.id_words.proofs.WriteLemmas.{write_refused}
use Rattle.id_tree.proofs.pushing.push.Goals as goal

pub returns-clause-written : goal.returns-clause-written
returns-clause-written g c = λ h objects there room.
    let D = g.row.D in
    let old = c.args.cache.now in
    let n = c.args.number in
    let was = bytes_of_leaf D (pages old n) objects there in
    ok_of c.edit.result (c.edit.ensures.edited h was.0 (a_live_page_is_given old n was.0 was.1))
    (λ answer did.
    ap (leaf_in D) (did.2 (there_of_leaf D (pages old n) objects there)) ∙ ap (leaf_at D) (sym did.3.leaves)
    ∙ did.3.met.pushed objects (ap (leaf_at D) did.3.shows ∙ was.2) room)

pub returns-clause-tidy : goal.returns-clause-tidy
returns-clause-tidy g c = λ h objects there room.
    let D = g.row.D in
    let old = c.args.cache.now in
    let n = c.args.number in
    let was = bytes_of_leaf D (pages old n) objects there in
    let live = there_of_leaf D (pages old n) objects there in
    ok_of c.edit.result (c.edit.ensures.edited h was.0 (a_live_page_is_given old n was.0 was.1))
    (λ answer did.
    let shown = ap (leaf_at D) did.3.shows ∙ was.2 in
    tidy_written D (pages old) (pages c.edit.new.self) n did.0 (c.edit.ensures.others h live) (did.2 live)
    (λ tidy.
    leaf_node D did.0 (objects ++ c.args.object.now ∷ [])
    (ap (leaf_at D) (sym did.3.leaves) ∙ did.3.met.pushed objects shown room)
    (subst (IsTidyLeaf D) did.3.leaves (did.3.met.tidy (subst (IsTidyLeaf D) (sym did.3.shows)
    (tidy_leaf D was.0 objects was.2 (bytes_tidy D (pages old) n was.0 was.1 tidy)))))))

pub returns-clause-damage : goal.returns-clause-damage
returns-clause-damage g c = λ h.
    write_refused c.edit.result c.args.number (next_of c.args.cache.now) (c.edit.ensures.faults h)
    (λ out. (c.edit.ensures.outside out).0)
