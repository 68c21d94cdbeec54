use Rattle.rstore_c.proofs.exports.opening.rstore_c_layers.Goals as goal

-- the session is the one that the handle holds
pub returns : goal.returns
returns c = rw (← c.held.ensures.value) c.layers.ensures
