-- A map whose gate is shut lies in its blocks.
use Rattle.page_cache.proofs.Behind.{shut_lies}
use Rattle.page_cache.proofs.laws.a_shut_map_lies_in_its_blocks.Goals as goal

pub returns : goal.returns
returns g c = λ cache h shut. shut_lies cache h shut
