-- What the walk of `PageFile::free_pages` keeps.
use Rattle.page_file.proofs.Walk.{Walked}
use Rattle.page_file.proofs.file.PageFile.free_pages.Given as goal

abbrev pub invariant-loop-left : goal.invariant-loop-left
invariant-loop-left g l = Walked l.fn.self l.self l.found.items l.next l.left

abbrev pub decreases-loop-left : goal.decreases-loop-left
decreases-loop-left g l = l.left
