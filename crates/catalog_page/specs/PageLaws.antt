-- The laws of what pages spell.
use Rattle.std.specs.Prelude.{◌≡◌, ◌↔◌, List, ℕ, [], Some}
use Rattle.block_bytes.specs.Forms.{HasOnePage, ReadsNamed}
use Rattle.block_bytes.specs.Kinds.{catalog_kind}
use Rattle.block_bytes.specs.Numbers.{zeros, put_number, AreBytes}
use Rattle.catalog_page.specs.Layout.{Record, IsCatalog, Spells, records_at, IsNamed}

-- reading gives exactly what is spelled
abbrev pub ReadsWhatIsSpelled : Type 0
ReadsWhatIsSpelled = (page : List ℕ) (layers : List Record)
    → (records_at page ≡ Some layers) ↔ Spells page layers

-- only named bytes are read
abbrev pub ReadsNamedBytes : Type 0
ReadsNamedBytes = ReadsNamed records_at IsNamed

-- what a page of bytes spells is a catalog
abbrev pub SpellsCatalogs : Type 0
SpellsCatalogs = (page : List ℕ) (layers : List Record) → AreBytes page → Spells page layers
    → IsCatalog layers

-- zeros after the kind of a catalog spell no layers
abbrev pub BeginsEmpty : Type 0
BeginsEmpty = records_at (put_number 1 0 catalog_kind zeros) ≡ Some []

-- a list of layers has one page
abbrev pub CatalogsHaveOnePage : Type 0
CatalogsHaveOnePage = HasOnePage records_at IsNamed
