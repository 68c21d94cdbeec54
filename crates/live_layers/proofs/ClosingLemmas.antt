-- What a closing of live layers leaves, and what a reading after it finds.
use Rattle.std.proofs.Common.{◌≡◌, ◌∙◌, ◌⊎◌, ℕ, List, ◌∷◌, Some, refl, sym, ap, subst, arith, inl, inr}
use Rattle.std.proofs.Common.{⊎_elim}
use Rattle.std.specs.Prelude.{option_and_then}
use Rattle.block_device.specs.Device.{Blocks, LeavesOnly, Brings}
use Rattle.block_device.specs.Moments.{leaves_weaker, brings_started}
use Rattle.catalog_page.specs.Layout.{Record, records_at, records_of}
use Rattle.page_cache.specs.Cache.{IsHonest, IsUnchanged, KeepsGate, KeepsMap, LiesIn, blocks_of, device_of}
use Rattle.page_cache.specs.Cache.{gate_of, next_of, pages, version_of}
use Rattle.page_cache.specs.declared.cache.PageCache.{PageCache}
use Rattle.page_file.specs.Fault.{IsOfDevice}
use Rattle.page_file.specs.Laws.{stops_of_a_run_go_on}
use Rattle.page_file.specs.Pages.{SameBut, pages_in}
use Rattle.page_file.specs.Stops.{StopSince}
use Rattle.page_file.specs.declared.fault.Fault.{Fault}
use Rattle.page_file.specs.declared.fault.Fault.TheVariants as fault
use Rattle.page_file.specs.declared.gate.Gate.{Gate}
use Rattle.page_file.specs.declared.gate.Gate.TheVariants.{Open, Shut, Unsure}
use Rattle.plain_table.specs.Table.{Table}
use Rattle.live_layers.specs.Catalog.{objects_named}
use Rattle.live_layers.specs.Changes.{IsFaultOfChange}
use Rattle.live_layers.specs.Image.{IsImage, IsRefusedOrImageOf, IsTreeIn}
use Rattle.live_layers.specs.Keeping.{IsSound, IsWritten, RestLeavesOneOf}
use Rattle.live_layers.specs.Layers.{Holds, IsTreeOf, catalog_in}
use Rattle.tree_node.specs.Trees.{Tree}
use Rattle.live_layers.specs.declared.layers.Layers.{Layers}
use Rattle.live_layers.proofs.HoldLemmas.{apart_from_catalog, counted, few_objects, trees_stay}
use Rattle.live_layers.proofs.KeepLemmas.{kept_catalog, kept_table}
use Rattle.live_layers.proofs.ReplaceLemmas.{same_tree_of}
use Rattle.live_layers.proofs.StopLemmas.{image_aside, or_this, this_one}

-- a fault of the device breaks a closing off
pub breaks_off : (rose : Type 0) (f : Fault) → IsOfDevice f → (f ≡ fault.Device → rose)
    → IsFaultOfChange rose f
breaks_off rose f (inl e) risen = subst (IsFaultOfChange rose) (sym e) tt
breaks_off rose f (inr e) risen = subst (IsFaultOfChange rose) (sym e) (risen e)

-- a gate that is open or unsure is not shut
pub open_is_not_shut : (gate : Gate) → gate ≡ Open → ¬ (gate ≡ Shut)
open_is_not_shut gate opened shut = let no : Open ≡ Shut = sym opened ∙ shut in cc

pub unsure_is_not_shut : (gate : Gate) → gate ≡ Unsure → ¬ (gate ≡ Shut)
unsure_is_not_shut gate unsure shut = let no : Unsure ≡ Shut = sym unsure ∙ shut in cc

pub not_shut : {P : Type 0} (gate : Gate) → (gate ≡ Unsure) ⊎ ((gate ≡ Open) × P) → ¬ (gate ≡ Shut)
not_shut gate (inl unsure) = unsure_is_not_shut gate unsure
not_shut gate (inr opened) = open_is_not_shut gate opened.0

shut_is_not_open : (gate : Gate) → gate ≡ Shut → gate ≡ Open → ⊥
shut_is_not_open gate shut opened = let no : Shut ≡ Open = sym shut ∙ opened in absurd (cc)

module _ {D A : Type 0} {m : _} where
  -- where nothing was done the gate is kept
  pub unchanged_keeps_gate : (old new : PageCache D A m) → IsUnchanged old new → KeepsGate old new
  unchanged_keeps_gate old new same = record {
    gate = same.gate;
    honest = (λ h. subst m.honest (sym same.device) h, λ h. subst m.honest same.device h);
    version = λ h. same.version;
    blocks = λ h closed. ap m.shown same.device;
    stops = λ h. record {
      later = let e = ap m.moment same.device in omega (arith, e);
      before = λ t c le left. inl (subst (λ (d : D). m.left_since d t c) same.device left);
      brings =
          subst (λ (d : D). Brings m.moment m.recovery (device_of old) d
          (StopSince (gate_of old) (blocks_of old))) (sym same.device)
          (brings_started m.moment m.recovery (device_of old) (StopSince (gate_of old) (blocks_of old)));
    };
  }

  -- blocks that are read behind a shut gate stay
  pub read_image : (mid new : PageCache D A m) (t : Table) → IsHonest mid → gate_of mid ≡ Shut
      → KeepsGate mid new → IsImage (blocks_of mid) t → IsImage (blocks_of new) t
  read_image mid new t honest shut keeps image =
      subst (λ (blocks : Blocks). IsImage blocks t)
      (sym (keeps.blocks honest (λ opened. shut_is_not_open (gate_of mid) shut opened))) image

  -- an image that is read behind its shut gate leaves no more
  pub then_read : (old : D) (mid new : PageCache D A m) (ts : List Table) (t : Table) → IsHonest mid
      → gate_of mid ≡ Shut → IsImage (blocks_of mid) t
      → LeavesOnly m.moment m.left_since m.recovery old (device_of mid) (IsRefusedOrImageOf (t ∷ ts))
      → KeepsGate mid new
      → LeavesOnly m.moment m.left_since m.recovery old (device_of new) (IsRefusedOrImageOf (t ∷ ts))
  then_read old mid new ts t honest shut image closed keeps =
      leaves_weaker m.moment m.left_since m.recovery old (device_of new)
      (λ c. IsRefusedOrImageOf (t ∷ ts) c ⊎ StopSince (gate_of mid) (blocks_of mid) c)
      (IsRefusedOrImageOf (t ∷ ts))
      (λ c. ⊎_elim (λ (p : IsRefusedOrImageOf (t ∷ ts) c). p)
      (λ stop. this_one ts t c
      (subst (λ (blocks : Blocks). IsImage blocks t)
      (sym (subst (λ (gate : Gate). StopSince gate (blocks_of mid) c) shut stop)) image)))
      (stops_of_a_run_go_on old mid.file new.file (IsRefusedOrImageOf (t ∷ ts)) honest closed keeps)

  -- a cache whose blocks are an image of the table rests on it, and one that rested on others on these and
  -- one more
  pub rests_on_closed : (cache : PageCache D A m) (ts : List Table) (t : Table) → IsImage (blocks_of cache) t
      → RestLeavesOneOf cache (t ∷ ts)
  rests_on_closed cache ts t image =
      λ closed c same. ⊎_elim (λ refused. inl refused) (λ there. this_one ts t c there)
      (image_aside (blocks_of cache) c t image same)

  pub rests_on_more : (cache : PageCache D A m) (ts : List Table) (t : Table) → RestLeavesOneOf cache ts
      → RestLeavesOneOf cache (t ∷ ts)
  rests_on_more cache ts t rests = λ closed c same. or_this ts t c (rests closed c same)

  -- pages that stay, and then all but that of the catalog
  pub beside_catalog : (old begun new : PageCache D A m) → IsHonest old → KeepsMap old begun
      → SameBut 2 (pages begun) (pages new) → SameBut 2 (pages old) (pages new)
  beside_catalog old begun new honest keeps same = λ n other. same n other ∙ keeps.pages_stay honest n

  -- all but that of the catalog, and then all
  pub catalog_beside : (old mid new : PageCache D A m) → IsHonest mid → SameBut 2 (pages old) (pages mid)
      → KeepsMap mid new → SameBut 2 (pages old) (pages new)
  catalog_beside old mid new honest same keeps = λ n other. keeps.pages_stay honest n ∙ same n other

  -- the catalog of the same map
  pub catalog_before : (old new : PageCache D A m) (records : List Record) → IsHonest old → KeepsMap old new
      → catalog_in (pages new) ≡ Some records → catalog_in (pages old) ≡ Some records
  catalog_before old new records honest keeps spelled =
      ap (option_and_then records_at) (sym (keeps.pages_stay honest 2)) ∙ spelled

  -- records that were read again are those that were written
  same_records : (old : Layers D A m) (rs : List Record) (t : Table) → IsSound old t → IsWritten old
      → catalog_in (pages old.cache) ≡ Some rs → records_of old.records ≡ rs
  same_records old rs t sound written spelled = let both : Some (records_of old.records) ≡ Some rs =
      sym (sound.catalog written) ∙ spelled in cc

  -- layers whose records were read again, of a map that stays and spells those that they had
  pub read_sound : (old new : Layers D A m) (t : Table) → IsSound old t → IsWritten old
      → KeepsMap old.cache new.cache → catalog_in (pages old.cache) ≡ Some (records_of new.records)
      → new.object_count ≡ objects_named (records_of new.records) → IsSound new t
  read_sound old new t sound written keeps spelled count =
      let honest = sound.map.honest in
      let rs = records_of new.records in
      let same : records_of old.records ≡ rs = same_records old rs t sound written spelled in
      let held : Holds (pages old.cache) (next_of old.cache) (version_of old.cache) rs t =
      subst (λ (rs : List Record). Holds (pages old.cache) (next_of old.cache) (version_of old.cache) rs t) same
      sound.holds in
      let number = count ∙ counted (pages old.cache) (next_of old.cache) rs t held in
      record {
        map = keeps.sound.0 sound.map;
        holds = kept_table old.cache new.cache rs t honest keeps held;
        counted = number;
        within = omega (arith, number, few_objects (pages old.cache) (next_of old.cache) rs t held);
        catalog = λ w. kept_catalog old.cache new.cache rs honest keeps spelled;
      }

  -- ---- trees

  -- where the map and the records stay, so do the trees
  pub trees_kept : (old new : PageCache D A m) (rs ss : List Record) → IsHonest old → KeepsMap old new
      → rs ≡ ss → (name : List ℕ) (s : Tree) → IsTreeOf (pages old) rs name s → IsTreeOf (pages new) ss name s
  trees_kept old new rs ss honest keeps same =
      same_tree_of (pages old) (pages new) rs ss (λ n. sym (keeps.pages_stay honest n)) same

  -- the page of the catalog, which may hold other bytes, is none of theirs
  pub trees_beside_catalog : (old : Layers D A m) (begun new : PageCache D A m) (t : Table) → IsSound old t
      → KeepsMap old.cache begun → SameBut 2 (pages begun) (pages new)
      → (name : List ℕ) (s : Tree) → IsTreeOf (pages old.cache) (records_of old.records) name s
      → IsTreeOf (pages new) (records_of old.records) name s
  trees_beside_catalog old begun new t sound keeps same =
      let rs = records_of old.records in
      let next = next_of old.cache in
      trees_stay (pages old.cache) next rs t sound.holds (pages new)
      (λ n p. same n (apart_from_catalog (pages old.cache) next rs t sound.holds n p)
      ∙ keeps.pages_stay sound.map.honest n)

  -- where the records are read again, too
  pub trees_read_again : (old : Layers D A m) (new : PageCache D A m) (rs : List Record) (t : Table)
      → IsSound old t → IsWritten old → KeepsMap old.cache new → catalog_in (pages old.cache) ≡ Some rs
      → (name : List ℕ) (s : Tree) → IsTreeOf (pages old.cache) (records_of old.records) name s
      → IsTreeOf (pages new) rs name s
  trees_read_again old new rs t sound written keeps spelled =
      trees_kept old.cache new (records_of old.records) rs sound.map.honest keeps
      (same_records old rs t sound written spelled)

  -- blocks in which the pages lie have the trees, and a cache over such blocks has those that they have
  pub trees_in_blocks : (old new : PageCache D A m) (rs : List Record) (blocks : Blocks) → IsHonest old
      → KeepsMap old new → LiesIn new blocks → catalog_in (pages new) ≡ Some rs → (name : List ℕ) (s : Tree)
      → IsTreeOf (pages old) rs name s → IsTreeIn blocks name s
  trees_in_blocks old new rs blocks honest keeps lies spelled name s there = record {
    records = rs;
    spelled = ap (option_and_then records_at) (lies.pages_there 2) ∙ spelled;
    tree = same_tree_of (pages old) (pages_in blocks) rs rs
        (λ n. sym (keeps.pages_stay honest n) ∙ sym (lies.pages_there n)) refl name s there;
  }

  pub trees_found : (old new : PageCache D A m) (rs : List Record) (blocks : Blocks) → IsHonest old
      → LiesIn old blocks → KeepsMap old new → catalog_in (pages old) ≡ Some rs → (name : List ℕ) (s : Tree)
      → IsTreeIn blocks name s → IsTreeOf (pages new) rs name s
  trees_found old new rs blocks honest lies keeps spelled name s there =
      let both : Some there.records ≡ Some rs = sym there.spelled
      ∙ ap (option_and_then records_at) (lies.pages_there 2) ∙ spelled in
      let same : there.records ≡ rs = cc in
      same_tree_of (pages_in blocks) (pages new) there.records rs
      (λ n. lies.pages_there n ∙ sym (keeps.pages_stay honest n)) same name s there.tree
