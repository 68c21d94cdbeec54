use Rattle.rstore_c.proofs.exports.opening.rstore_c_close.Goals as goal

-- the session is the one that the handle holds
pub returns-clause-closes : goal.returns-clause-closes
returns-clause-closes c = rw (← c.held.ensures.value) (
  c.close-number.result.1,
  c.close-number.result.0,
  c.close-number.ensures.closes,
  c.closing_number.ensures,
)
