use Rattle.rstore_c.proofs.exports.parts.rstore_c_last.Goals as goal

-- the session is the one that the handle holds
pub returns : goal.returns
returns c = rw (← c.held.ensures.value) c.last.ensures
