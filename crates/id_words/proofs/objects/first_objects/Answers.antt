-- As many as are taken at once, and all where they are fewer.
use Rattle.std.proofs.Common.{◌∙◌, arith}
use Rattle.id_words.specs.Objects.{pairs_in}
use Rattle.id_words.proofs.EntryLemmas.{as_many_listed, first_listed, least_taken}
use Rattle.id_words.proofs.objects.first_objects.Goals as goal

pub returns : goal.returns
returns g c =
    let entries = c.args.entries.now in
    c.entries.invariant ∙ first_listed c.entries.place entries
    ∙ least_taken c.entries.place 145 (pairs_in entries)
    (omega (
      arith,
      as_many_listed entries,
      c.min-place-end.ensures,
      c.entries-test.false,
      c.entries.auto.place-end,
    ))
