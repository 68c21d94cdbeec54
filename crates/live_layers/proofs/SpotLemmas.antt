-- The spot of an identifier in the table of a layer: once it was found, and once a change is begun.
use Rattle.std.proofs.Common.{◌≡◌, ◌∙◌, ℕ, List, [], get_or, ap, subst, sym}
use Rattle.catalog_page.specs.Layout.{Record}
use Rattle.id_table.specs.Table.{IsSpotAt}
use Rattle.id_table.specs.declared.asking.Spot.{Spot}
use Rattle.node_page.specs.Standing.{PageMap}
use Rattle.page_cache.specs.Cache.{pages}
use Rattle.live_layers.specs.Keeping.{cache_of, records_in}
use Rattle.live_layers.specs.Located.{IsRecorded, IsSpotIn, IsSpotOf, Whereabouts, located_by, whereabouts_of}
use Rattle.live_layers.specs.declared.layers.Layers.{Layers}
use Rattle.live_layers.specs.declared.located.Located.{Located}

some_record : Record
some_record = record { name = []; dims = 0; fanout = 0; level = 0; root = 0; ids_root = 0; count = 0 }

-- in pages that stay, with records that stay
module _ {D A : Type 0} {m : _} (dims : ℕ) (old new : Layers D A m)
    (stay : (n : ℕ) → pages (cache_of new) n ≡ pages (cache_of old) n)
    (records : records_in new ≡ records_in old) (place id : ℕ) (spot : Spot) where
  pub spot_stays : (located : Located) → IsSpotOf dims old located id spot → IsSpotOf dims new located id spot
  spot_stays located is =
      subst (λ (p : PageMap). IsSpotAt dims p located.ids_root id spot) (sym (λ i n. stay n i)) is

  -- the spot that was found is one in the layer at its place
  pub spot_in : (located : Located) → IsRecorded old place located → IsSpotOf dims new located id spot
      → IsSpotIn dims new place id spot
  spot_in located was is other recorded =
      let same : whereabouts_of other ≡ whereabouts_of located = recorded some_record
      ∙ ap (λ (rows : List Record). located_by (get_or rows place some_record)) records
      ∙ sym (was some_record) in
      subst (λ (w : Whereabouts). IsSpotAt dims (pages (cache_of new)) w.ids_root id spot) (sym same) is

  -- and still is once a change is begun
  pub spot_begun : IsSpotIn dims old place id spot → (located : Located) → IsRecorded new place located
      → IsSpotOf dims new located id spot
  spot_begun is located recorded = spot_stays located
      (is located (λ row. recorded row
      ∙ ap (λ (rows : List Record). located_by (get_or rows place row)) records))
