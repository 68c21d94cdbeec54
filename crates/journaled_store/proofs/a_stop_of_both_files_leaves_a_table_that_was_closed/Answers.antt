-- What a stop leaves on disk is what it leaves as both are shown.
use Rattle.std.proofs.Common.{refl}
use Rattle.marked_pair.specs.Mark.{unmarked}
use Rattle.titled_pair.specs.Title.{untitled}
use Rattle.journaled_store.proofs.a_stop_of_both_files_leaves_a_table_that_was_closed.Goals as goal

pub returns-clause-now : goal.returns-clause-now
returns-clause-now g c = λ store s a e r left.
    c.a_stop_leaves_a_table_that_was_closed.ensures.now store s (unmarked a) (untitled e) r
    (a, (e, left, refl), refl)

pub returns-clause-so_far : goal.returns-clause-so_far
returns-clause-so_far g c = λ store s a e r left.
    c.a_stop_leaves_a_table_that_was_closed.ensures.so_far store s (unmarked a) (untitled e) r
    (a, (e, left, refl), refl)
