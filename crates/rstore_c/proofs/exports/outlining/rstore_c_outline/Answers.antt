use Rattle.rstore_c.proofs.exports.outlining.rstore_c_outline.Goals as goal

-- the session is the one that the handle holds
pub returns-clause-asks : goal.returns-clause-asks
returns-clause-asks c = rw (← c.held.ensures.value) c.outline-number.ensures
