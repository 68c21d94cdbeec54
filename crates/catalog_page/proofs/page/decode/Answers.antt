-- Another kind, too great a count or a record without a name spell no layers, and else the records are
-- spelled.
use Rattle.std.proofs.Common.{◌≡◌, ◌+◌, ◌++◌, ◌∷◌, ◌<◌, ℕ, List, [], length, map, All, true, false, Some}
use Rattle.std.proofs.Common.{slice_index, refl, sym, ◌∙◌, ap, subst, arith, rules}
use Rattle.std.proofs.lemmas.List.{map_push}
use Rattle.std.proofs.lemmas.List.Elements.{All-nil, All-push}
use Rattle.block_bytes.specs.Numbers.{number_at}
use Rattle.catalog_page.specs.Layout.{Record, HasName, record_of, records_of, record_at, first_records}
use Rattle.catalog_page.proofs.Named.{spells_catalogs}
use Rattle.catalog_page.proofs.Reading.{spells, no_kind, no_count, no_name, all_names}
use Rattle.block_bytes.specs.PlaceLaws.{first_places-more, first_places-none}
use Rattle.catalog_page.proofs.page.decode.Goals as goal

pub returns-then-read_u8-ne-CATALOG_KIND-clause-spelled : goal.returns-then-read_u8-ne-CATALOG_KIND-clause-spelled
returns-then-read_u8-ne-CATALOG_KIND-clause-spelled c =
    sym (no_kind c.args.page.now (λ is. absurd (omega (arith, is))))

pub returns-then-count-gt60-clause-spelled : goal.returns-then-count-gt60-clause-spelled
returns-then-count-gt60-clause-spelled c = sym (no_count c.args.page.now (omega arith))

pub loop-place-init : goal.loop-place-init
loop-place-init c =
    let none = first_places-none (record_at c.args.page.now) in
    record {
      read = ap (map record_of) c.new-layers.ensures ∙ sym none;
      many = ap length c.new-layers.ensures;
      named = subst (All HasName) (sym none) (All-nil HasName);
    }

pub returns-in-None-clause-spelled : goal.returns-in-None-clause-spelled
returns-in-None-clause-spelled c =
    sym (no_name c.args.page.now c.loop-place.place (omega arith)
    (λ is. let found : false ≡ true = c.in-None.ensures.some.1 is in cc))

pub loop-place-preserved : goal.loop-place-preserved
loop-place-preserved c =
    let before = c.loop-place.invariant in
    let page = c.args.page.now in
    let place = c.loop-place.place in
    let more = first_places-more (record_at page) place in
    record {
      read = ap (map record_of) c.push.ensures.items
          ∙ map_push record_of c.loop-place.layers.items c.in-Some.layer
          ∙ ap (λ (xs : List Record). xs ++ record_of c.in-Some.layer ∷ []) before.read
          ∙ ap (λ (x : Record). first_records page place ++ x ∷ []) c.in-Some.ensures.value ∙ sym more;
      many = c.push.ensures.len ∙ ap (λ (n : ℕ). n + 1) before.many;
      named = subst (All HasName) (sym more)
          (All-push HasName (first_records page place) (record_at page place) before.named
          (c.in-Some.ensures.some.0 refl));
    }

pub returns-clause-spelled : goal.returns-clause-spelled
returns-clause-spelled c =
    let kind : number_at 1 0 c.args.page.now ≡ 1 = omega arith in
    ap (λ (xs : List Record). Some xs) c.loop-place.invariant.read
    ∙ sym (all_names c.args.page.now c.loop-place.place kind (omega arith) (omega arith)
    c.loop-place.invariant.named)

pub returns-clause-is_catalog : goal.returns-clause-is_catalog
returns-clause-is_catalog c =
    let bytes : (k : ℕ) → slice_index c.args.page.now k < 256 = search rules in
    let layers = records_of c.loop-place.layers in
    spells_catalogs c.args.page.now layers bytes
    (spells c.args.page.now layers (sym (returns-clause-spelled c)))
