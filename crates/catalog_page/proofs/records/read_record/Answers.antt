-- The record is that of its name and its numbers, and it has a name where the length of one stands.
use Rattle.std.proofs.Common.{ℕ, refl, sym, ◌∙◌, ap}
use Rattle.catalog_page.specs.Layout.{Record, record_from}
use Rattle.catalog_page.proofs.Places.{record_is, has_name_at}
use Rattle.catalog_page.proofs.records.read_record.Goals as goal

pub returns-in-Some-clause-value : goal.returns-in-Some-clause-value
returns-in-Some-clause-value c =
    let page = c.args.page.now in
    let layer : Record = record {
      name = c.in-Some.name.items;
      dims = c.read_u8.result;
      fanout = c.read_u8-in-Some.result;
      level = c.read_u8-in-Some-2.result;
      root = c.read_u32.result;
      ids_root = c.read_u32-in-Some.result;
      count = c.read_u64.result;
    } in
    sym (record_is c.place_of-at.result page layer (sym c.in-Some.ensures.value) (record {
      dims_is = sym c.read_u8.ensures;
      fanout_is = sym c.read_u8-in-Some.ensures;
      level_is = sym c.read_u8-in-Some-2.ensures;
      root_is = sym c.read_u32.ensures;
      ids_root_is = sym c.read_u32-in-Some.ensures;
      count_is = sym c.read_u64.ensures;
    })) ∙ ap (λ (at : ℕ). record_from at page) c.place_of-at.ensures.value

pub returns-in-Some-clause-some : goal.returns-in-Some-clause-some
returns-in-Some-clause-some c = (
  λ h. (has_name_at c.place_of-at.result c.args.place c.args.page.now c.place_of-at.ensures.value).0
      (c.in-Some.ensures.some.0 refl),
  λ is. refl,
)

pub returns-in-None-clause-some : goal.returns-in-None-clause-some
returns-in-None-clause-some c = (
  λ h. absurd (cc),
  λ is. c.in-None.ensures.some.1
      ((has_name_at c.place_of-at.result c.args.place c.args.page.now c.place_of-at.ensures.value).1 is),
)
