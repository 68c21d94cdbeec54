use Rattle.c_rows.proofs.PageLemmas.{behind_it}
use Rattle.c_rows.proofs.laws.pages_follow_one_another.Goals as goal

pub returns : goal.returns
returns c = λ before behind object h. behind_it before behind object h
