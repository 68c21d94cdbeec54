-- The entry is that of the place, and is one of the level where its box and its reference are.
use Rattle.std.proofs.Common.{refl, sym, ◌∙◌}
use Rattle.node_bytes.proofs.Places.{item_is, entry_of_numbers}
use Rattle.node_bytes.proofs.entries.read_entry.Goals as goal

pub returns-then-not-is_reference-clause-some : goal.returns-then-not-is_reference-clause-some
returns-then-not-is_reference-clause-some g c =
    let numbers =
    entry_of_numbers g.row.D c.args.place c.args.level c.read_u64-reference.result c.args.page.now
    c.read_u64-reference.ensures in (
      λ h. absurd (cc),
      λ is. sym c.if-not-is_reference.true ∙ c.is_reference.ensures.1 (numbers.1 is).1,
    )

pub returns-in-Some-clause-value : goal.returns-in-Some-clause-value
returns-in-Some-clause-value g c =
    item_is g.row.D c.args.place c.args.page.now c.in-Some.bounds c.read_u64-reference.result
    c.tag_in-tag.result c.in-Some.ensures.value c.read_u64-reference.ensures c.tag_in-tag.ensures

pub returns-in-Some-clause-some : goal.returns-in-Some-clause-some
returns-in-Some-clause-some g c =
    let numbers =
    entry_of_numbers g.row.D c.args.place c.args.level c.read_u64-reference.result c.args.page.now
    c.read_u64-reference.ensures in (
      λ h. numbers.0 (c.in-Some.ensures.some.0 refl, c.is_reference.ensures.0 c.if-not-is_reference.false),
      λ is. refl,
    )

pub returns-in-None-clause-some : goal.returns-in-None-clause-some
returns-in-None-clause-some g c =
    let numbers =
    entry_of_numbers g.row.D c.args.place c.args.level c.read_u64-reference.result c.args.page.now
    c.read_u64-reference.ensures in (
      λ h. absurd (cc),
      λ is. c.in-None.ensures.some.1 (numbers.1 is).0,
    )
