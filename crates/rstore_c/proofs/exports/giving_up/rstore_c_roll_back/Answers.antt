use Rattle.rstore_c.proofs.exports.giving_up.rstore_c_roll_back.Goals as goal

-- the session is the one that the handle holds
pub returns : goal.returns
returns c = rw (← c.held.ensures.value) c.roll_back.ensures
