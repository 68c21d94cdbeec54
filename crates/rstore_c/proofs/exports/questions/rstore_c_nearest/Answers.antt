use Rattle.rstore_c.proofs.exports.questions.rstore_c_nearest.Goals as goal

-- the session is the one that the handle holds
pub returns-clause-asks : goal.returns-clause-asks
returns-clause-asks c = rw (← c.held.ensures.value) c.nearest-number.ensures
