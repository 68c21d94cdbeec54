-- What was found in the pages given out stands in the live pages.
use Rattle.std.proofs.Common.{◌≡◌, ◌∙◌, ◌++◌, ℕ, List, [], ap, map, sym}
use Rattle.page_file.specs.Fault.{IsOfDevice}
use Rattle.page_cache.specs.Cache.{given}
use Rattle.tree_node.specs.Trees.{leaf_ids}
use Rattle.node_page.specs.Lists.{lists_of}
use Rattle.node_page.proofs.GivenLemmas.{given_tree_is_live, live_tree_is_given}
use Rattle.node_page.proofs.NodeLemmas.{at_error}
use Rattle.node_page.proofs.StandingLemmas.{one_row_stands}
use Rattle.node_page.proofs.leaves.leaf_lists.Goals as goal

pub returns-in_err-add_leaves-clause-stands : goal.returns-in_err-add_leaves-clause-stands
returns-in_err-add_leaves-clause-stands g c = λ h t page level stands.
    at_error c.from_residual.result c.in_err-add_leaves.field-0.0 IsOfDevice c.from_residual.ensures.1
    (c.in_err-add_leaves.ensures.stands h t.row
    (live_tree_is_given g.row.D c.args.cache.now t c.args.root.page c.args.root.level page level stands))

pub returns-clause-lists : goal.returns-clause-lists
returns-clause-lists g c = λ h t page level stands.
    let found = c.in_ok-add_leaves.ensures.found h in
    let there =
    live_tree_is_given g.row.D c.args.cache.now t c.args.root.page c.args.root.level page level stands in
    let same =
    one_row_stands g.row.D (given c.args.cache.now) c.args.root.page c.args.root.level found.row t.row
    found.stands there in
    let none : lists_of c.new-lists.result ≡ [] = ap (map (λ list. list.items)) c.new-lists.ensures.items in
    found.lists_are ∙ ap (λ (xs : List (List ℕ)). xs ++ leaf_ids c.args.root.level found.row) none
    ∙ ap (leaf_ids c.args.root.level) same ∙ ap (λ (l : ℕ). leaf_ids l t.row) (sym level)

pub returns-clause-found : goal.returns-clause-found
returns-clause-found g c = λ sound.
    let found = c.in_ok-add_leaves.ensures.found sound.honest in
    let none : lists_of c.new-lists.result ≡ [] = ap (map (λ list. list.items)) c.new-lists.ensures.items in
    record {
      row = found.row;
      stands =
          given_tree_is_live g.row.D c.args.cache.now c.args.root.page c.args.root.level found.row sound
          found.stands;
      lists_are = found.lists_are
          ∙ ap (λ (xs : List (List ℕ)). xs ++ leaf_ids c.args.root.level found.row) none;
      looks_are = found.looks_are;
    }
