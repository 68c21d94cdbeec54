-- The bytes of the child are those that come into the root.
use Rattle.id_tree.proofs.WorksLemmas.{works_from, works_refused}
use Rattle.page_cache.specs.Cache.{pages}
use Rattle.id_tree.proofs.RemoveLemmas.{free_same, puts_from}
use Rattle.id_tree.proofs.TidyLemmas.{as_tidy_on, fork_as_tidy}
use Rattle.id_tree.proofs.NodeLemmas.{fork_bytes}
use Rattle.id_tree.proofs.lowering.lift.Goals as goal

pub returns-in_err-bytes-clause-lifts : goal.returns-in_err-bytes-clause-lifts
returns-in_err-bytes-clause-lifts g c = λ map may dims content fork.
    works_refused c.in_err-bytes.field-0.0 c.from_residual.ensures.1
    (c.in_err-bytes.ensures.asks.map.sound.0 map) (c.in_err-bytes.ensures.there map.honest may.second_live)

pub returns-clause-lifts : goal.returns-clause-lifts
returns-clause-lifts g c = λ map may dims content fork.
    let old = pages c.args.cache.now in
    let mid = pages c.copy_page.new.cache in
    let bytes = c.in_ok-bytes.bytes in
    let asks = c.in_ok-bytes.ensures.asks in
    let same = asks.map.pages_stay map.honest in
    let there = c.in_ok-bytes.ensures.bytes map.honest may.second_live in
    let is = fork_bytes dims (old c.args.child) bytes content there fork in
    works_from (c.put_and_free.ensures.puts (asks.map.sound.0 map)
    (free_same old mid c.args.root c.args.child same may) dims
    (as_tidy_on dims old mid bytes same (fork_as_tidy dims old c.args.child bytes content there is))) same
    (λ u puts. record {
      bytes = bytes;
      was = there;
      puts = puts_from old mid (pages c.put_and_free.new.cache) c.args.root c.args.child bytes same puts;
    }) (λ f why. why)
