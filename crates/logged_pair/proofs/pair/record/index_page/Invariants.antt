-- The first m homes stand in the page.
use Rattle.logged_pair.proofs.Indexing.{IsPageTo}
use Rattle.logged_pair.proofs.pair.record.index_page.Given as goal

abbrev pub invariant-loop-m : goal.invariant-loop-m
invariant-loop-m l = IsPageTo l.homes l.from l.m l.page
