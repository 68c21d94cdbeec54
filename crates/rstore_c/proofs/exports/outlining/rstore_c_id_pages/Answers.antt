use Rattle.rstore_c.proofs.exports.outlining.rstore_c_id_pages.Goals as goal

-- the session is the one that the handle holds
pub returns : goal.returns
returns c = rw (← c.held.ensures.value) c.id_pages.ensures
