-- What a stop leaves of both files is found by the device over them, of which the run tells.
use Rattle.std.proofs.Common.{refl}
use Rattle.marked_pair.specs.Mark.{unmarked}
use Rattle.titled_pair.specs.Title.{untitled}
use Rattle.journaled_file.specs.Opened.{read_of}
use Rattle.rstore.proofs.laws.a_run_that_is_cut_short_leaves_a_closed_table.Goals as goal

pub returns : goal.returns
returns g c = λ d t u well before after a e h runs le left.
    runs.kept (read_of a e) (
      λ k. (λ taken. taken, λ passes. passes),
      c.stops_of_the_pair_are_found.ensures d t u (unmarked a) (untitled e) h le (a, (e, left, refl), refl),
    )
