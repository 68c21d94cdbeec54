-- All objects of the second page are behind those of the first one.
use Rattle.id_tree.proofs.meeting.joined_leaf.Goals as goal

pub returns-clause-all : goal.returns-clause-all
returns-clause-all g c = λ xs ys one two. c.append_objects.ensures.appended xs ys one two
