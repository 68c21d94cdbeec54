-- What is seen of them was put into that order.
use Rattle.std.proofs.Common.{◌≡◌, ℕ, List, map, subst}
use Rattle.std.specs.BinaryHeap.{heap_items}
use Rattle.box_math.specs.Nearest.{nearest_first}
use Rattle.nearest.proofs.FirstLemmas.{ordered_once}
use Rattle.nearest.proofs.QueueLemmas.{row_of}
use Rattle.nearest.proofs.best.Best.see_order.Goals as goal

pub returns : goal.returns
returns g c =
    subst (λ (xs : List (ℕ × ℕ)). nearest_first xs ≡ xs) c.self.view_is (ordered_once (map row_of (heap_items c.self.inside.heap)))
