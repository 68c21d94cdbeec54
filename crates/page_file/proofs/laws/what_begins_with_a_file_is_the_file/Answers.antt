-- What begins with a file is the file.
use Rattle.page_file.specs.Prefix.{lies_longer, new_longer, passes_more}
use Rattle.page_file.proofs.laws.what_begins_with_a_file_is_the_file.Goals as goal

pub returns-clause-passes : goal.returns-clause-passes
returns-clause-passes g c = λ blocks d passes begins. passes_more blocks d begins passes

pub returns-clause-file : goal.returns-clause-file
returns-clause-file g c = λ file blocks d map lies begins. lies_longer file blocks d map lies begins

pub returns-clause-new : goal.returns-clause-new
returns-clause-new g c = λ blocks d is begins. new_longer blocks d is begins
