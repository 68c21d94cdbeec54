use Rattle.rstore_c.proofs.exports.changes.rstore_c_load.Goals as goal

-- the session is the one that the handle holds
pub returns : goal.returns
returns c = rw (← c.held.ensures.value) c.load.ensures
