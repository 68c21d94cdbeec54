use Rattle.rstore_c.proofs.exports.questions.rstore_c_get.Goals as goal

-- the session is the one that the handle holds
pub returns : goal.returns
returns c = rw (← c.held.ensures.value) c.get.ensures
