use Rattle.rstore_c.proofs.exports.parts.rstore_c_nearest_rows.Goals as goal

-- the session is the one that the handle holds
pub returns-clause-asks : goal.returns-clause-asks
returns-clause-asks c = rw (← c.held.ensures.value) c.nearest_rows-number.ensures
