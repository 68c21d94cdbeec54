-- The goals of `view_node` that are proved by hand.
use Rattle.std.proofs.Common.{◌≡◌, ℕ, Bor, List, Some, refl, rules, true}
use Rattle.page_file.specs.Fault.{IsOfDevice}
use Rattle.page_file.specs.declared.fault.Fault.{Fault}
use Rattle.page_cache.specs.Cache.{given}
use Rattle.page_cache.specs.declared.cache.PageCache.{PageCache}
use Rattle.node_bytes.specs.Layout.{node_test}
use Rattle.tree_node.specs.Nodes.{NodeContent}
use Rattle.node_bytes.proofs.Reading.{test_of_node}
use Rattle.node_page.specs.Standing.{node_in}
use Rattle.node_page.proofs.GivenLemmas.{live_node_is_given}
use Rattle.node_page.proofs.NodeLemmas.{at_error, bytes_of_node}
use Rattle.node_page.proofs.ReadLemmas.{not_read}
use Rattle.node_page.proofs.lending.view_node.Goals as goal

-- where the page given out spells a node, only memory and device refuse it
refused : {D A : Type 0} {m : _} (dims : ℕ) (cache : PageCache D A m) (n : ℕ) (f : Fault) (c : NodeContent)
    → ((page : List ℕ) → given cache n ≡ Some page → node_test dims page ≡ true → IsOfDevice f)
    → node_in dims (given cache n) ≡ Some c → IsOfDevice f
refused dims cache n f c there is =
    let was = bytes_of_node dims (given cache n) c is in there was.0 was.1 (test_of_node dims was.0 c was.2)

pub returns-in_err-bytes : goal.returns-in_err-bytes
returns-in_err-bytes g c = (
  (
    refl,
    λ k. tt,
    not_read {S = Bor (List ℕ)} _ _ _ c.in_err-bytes.field-0.0 c.from_residual.result (search rules)
        (search rules),
  ),
  record {
    read_at = tt;
    node = search rules;
    given_node = search rules;
    level = search rules;
    spellable = search rules;
    boxes = search rules;
    outside = search rules;
    there = λ h content there level.
        at_error c.from_residual.result c.in_err-bytes.field-0.0 IsOfDevice c.from_residual.ensures.1
        (refused g.row.D c.args.cache.now c.args.page c.in_err-bytes.field-0.0 content
        (c.in_err-bytes.ensures.there h)
        (live_node_is_given g.row.D c.args.cache.now c.args.page content there));
    given_there = λ h content there level.
        at_error c.from_residual.result c.in_err-bytes.field-0.0 IsOfDevice c.from_residual.ensures.1
        (refused g.row.D c.args.cache.now c.args.page c.in_err-bytes.field-0.0 content
        (c.in_err-bytes.ensures.there h) there);
    faults = search rules;
    held = search rules;
    other_faults = search rules;
  },
)
