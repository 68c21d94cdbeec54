-- A word with a number is read as that number.
use Rattle.std.proofs.Common.{◌≡◌, Some, arith}
use Rattle.std.specs.Str.Parse.{ExplainsUnsignedError, HasUnsignedDigitsIfOk, ParsesUnsigned}
use Rattle.program_words.proofs.WordsLemmas.{in_range, number_read}
use Rattle.program_words.proofs.words.limits_in.Goals as goal

pub returns-clause-cache : goal.returns-clause-cache
returns-clause-cache c = λ text n one number low high.
    let got : c.get_one.result ≡ Some n =
    number_read _
    (λ bs r. ParsesUnsigned 32 10 bs r × ExplainsUnsignedError 10 bs r
    × HasUnsignedDigitsIfOk bs r) text n c.get_one.result
    (c.get_one.ensures.value text one) (λ bs x g. g.0) number (omega (arith, high)) in
    (rw got at c.cached_pages.ensures.as_asked) (in_range n low high)

pub returns-clause-newest : goal.returns-clause-newest
returns-clause-newest c = λ text n one number low high.
    let got : c.get_one-2.result ≡ Some n =
    number_read _
    (λ bs r. ParsesUnsigned 32 10 bs r × ExplainsUnsignedError 10 bs r
    × HasUnsignedDigitsIfOk bs r) text n c.get_one-2.result
    (c.get_one-2.ensures.value text one) (λ bs x g. g.0) number (omega (arith, high)) in
    (rw got at c.newest_version.ensures) low high
