-- A new file holds the empty table, and what is read of a file behind its shut gate.
use Rattle.std.proofs.Common.{◌≡◌, ◌∙◌, ◌⊎◌, ◌<◌, ◌≤◌, ℕ, List, [], ◌∷◌, length, false, Option, Some, None}
use Rattle.std.proofs.Common.{refl, sym, ap, subst, arith, inl, inr, ⊎_elim}
use Rattle.std.specs.Prelude.{IsSome, option_and_then}
use Rattle.std.specs.FinMap.{empty, empty_of_len, entries, entries-from_sorted, from_sorted, len-entries}
use Rattle.std.specs.Cmp.Lexicographic.{slice_cmp}
use Rattle.std.specs.Ordering.{nat_cmp}
use Rattle.std.proofs.lemmas.Bool.{cases_eq}
use Rattle.std.proofs.lemmas.Bool.Decides.{nat_tests}
use Rattle.std.proofs.lemmas.List.Elements.{All-nil}
use Rattle.block_device.specs.Device.{Blocks, LeavesOnly, Recovery, BeginsOne}
use Rattle.block_device.specs.Moments.{leaves_weaker, brings_weaker}
use Rattle.catalog_page.specs.Layout.{records_at}
use Rattle.catalog_page.proofs.Named.{begins_empty}
use Rattle.live_layers.specs.Image.{HasNoCatalog, IsImage, CommitsWhatOpens, IsImageOfOne, IsRefusedOrImageOf}
use Rattle.live_layers.specs.Layers.{AllowsTable, Holds, in_use}
use Rattle.live_layers.specs.Keeping.{IsSound, records_in, IsFound}
use Rattle.live_layers.proofs.RecoveryLemmas.{found_after, image_kept, one_longer}
use Rattle.live_layers.proofs.StopLemmas.{image_of, shut_is_durable, this_one}
use Rattle.node_page.specs.Standing.{PageMap}
use Rattle.page_cache.specs.Cache.{IsHonest}
use Rattle.page_cache.proofs.Behind.{shut_lies}
use Rattle.page_file.specs.File.{IsNewFile, IsPageMap, LiesIn, blocks_of, next_of, pages, version_of}
use Rattle.page_file.specs.declared.header.Version.{Version}
use Rattle.page_file.specs.declared.header.Version.TheVariants.{Two}
use Rattle.page_file.specs.Laws.{a_run_goes_on}
use Rattle.page_file.specs.Layout.{catalog_block}
use Rattle.page_file.specs.Opening.{IsRefused}
use Rattle.page_file.specs.Pages.{next_in, pages_in}
use Rattle.page_file.specs.Stops.{AddsOnly, StopSince}
use Rattle.page_file.specs.declared.file.PageFile.{PageFile}
use Rattle.page_file.specs.declared.gate.Gate.TheVariants.{Shut}
use Rattle.plain_table.specs.Table.{Layer, Table}
use Rattle.store_law.specs.States.StoreState.{Alive}
use Rattle.layer_store.specs.Representation.{BeginsWith, IsInState, IsSettled, blocks_in, cache_in, device_in}
use Rattle.layer_store.specs.declared.store.Store.{Store}
use Rattle.layer_store.proofs.StopLemmas.{OnlyNow, closed_leaves, BroughtNow, OneCommit, found_now}
use Rattle.layer_store.proofs.StopLemmas.{settled_kept}
use Rattle.layer_store.proofs.StoreLemmas.{alive_so, begins, is_alive, is_settled}

-- ---- the empty table

no_entries : entries (empty {X = Layer} {R = slice_cmp nat_cmp}) ≡ []
no_entries =
    let none =
    empty_of_len (from_sorted {X = Layer} {R = slice_cmp nat_cmp} [])
    (len-entries (from_sorted {X = Layer} {R = slice_cmp nat_cmp} [])
    ∙ ap length (entries-from_sorted {X = Layer} (slice_cmp nat_cmp) [] tt)) in
    ap entries (sym none) ∙ entries-from_sorted {X = Layer} (slice_cmp nat_cmp) [] tt

the_catalog_alone : (n : ℕ) → in_use [] n ≤ 1
the_catalog_alone n = grind (arith, nat_tests)

its_page : (n : ℕ) → 0 < in_use [] n → 2 ≡ n
its_page n some =
    ⊎_elim (λ (e : 2 ≡ n). e)
    (λ (ne : ¬ (2 ≡ n)). let none : in_use [] n ≡ 0 = grind (arith, nat_tests) in
    absurd (omega (arith, some, none))) (cases_eq 2 n)

counted_once : in_use [] 2 ≡ 1
counted_once = refl

some_page : (page : Option (List ℕ)) (bytes : List ℕ) → page ≡ Some bytes → IsSome page
some_page None bytes e = absurd (cc)
some_page (Some b) bytes e = refl

none_is_some : (page : Option (List ℕ)) → page ≡ None → IsSome page → ⊥
none_is_some None e some = cc
none_is_some (Some b) e some = cc

-- a new file holds it
nothing_held : {version : Version} (pages : PageMap) (next : ℕ) → pages 2 ≡ Some catalog_block
    → ((k : ℕ) → ¬ (k ≡ 2) → pages k ≡ None) → Holds pages next version [] empty
nothing_held {version = version} pages next there others = record {
  layers = [];
  rows = refl;
  table = sym no_entries;
  stand = tt;
  allowed = All-nil (AllowsTable version);
  used = record {
    once = the_catalog_alone;
    live = λ n some. subst (λ (k : ℕ). IsSome (pages k)) (its_page n some)
        (some_page (pages 2) catalog_block there);
    used = λ n some. ⊎_elim
        (λ (e : 2 ≡ n). subst (λ (k : ℕ). 0 < in_use [] k) e (omega (arith, counted_once)))
        (λ (ne : ¬ (2 ≡ n)). absurd (none_is_some (pages n) (others n (λ e. ne (sym e))) some))
        (cases_eq 2 n);
  };
  good = refl;
}

-- its blocks are an image of the empty table
pub new_image : (blocks : Blocks) → IsNewFile blocks → IsImage blocks empty
unfolding catalog_block
new_image blocks new = record {
  passes = new.passes;
  free = new.sound;
  records = [];
  spelled = ap (option_and_then records_at) new.catalog ∙ begins_empty;
  holds = nothing_held (pages_in blocks) (next_in blocks) new.catalog new.others;
}

-- so are those of a file that was made
pub made_image : {D : Type 0} {m : _} (file : PageFile D m) → LiesIn file (blocks_of file) → version_of file ≡ Two
    → next_of file ≡ 3 → pages file 2 ≡ Some catalog_block → ((k : ℕ) → ¬ (k ≡ 2) → pages file k ≡ None) → IsPageMap file
    → IsImage (blocks_of file) empty
made_image file lies version next catalog others map = new_image (blocks_of file) (record {
  passes = lies.passes;
  version = lies.version ∙ version;
  next = lies.next ∙ next;
  catalog = lies.pages_there 2 ∙ catalog;
  others = λ k ne. lies.pages_there k ∙ others k ne;
  sound = lies.sound.0 map;
})

-- what is left while a file is made
pub new_left : {D : Type 0} (moment : D → ℕ) (left_since : D → ℕ → Blocks → Type 0) (recovery : Recovery D)
    (old new : D) (Q : Blocks → Type 0)
    → LeavesOnly moment left_since recovery old new (λ c. IsRefused c ⊎ (Q c × IsNewFile c))
    → LeavesOnly moment left_since recovery old new (λ c. IsRefused c ⊎ IsImage c empty)
new_left moment left_since recovery old new Q =
    leaves_weaker moment left_since recovery old new (λ c. IsRefused c ⊎ (Q c × IsNewFile c))
    (λ c. IsRefused c ⊎ IsImage c empty)
    (λ c. ⊎_elim (λ refused. inl refused) (λ made. inr (new_image c made.1)))

-- ---- a file that is read

pub some_is_not_none : {X : Type 0} {a : X} → None ≡ Some a → ⊥
some_is_not_none e = absurd (cc)

-- blocks that have P are read behind a shut gate
pub then_read : {D : Type 0} (moment : D → ℕ) (left_since : D → ℕ → Blocks → Type 0) (recovery : Recovery D)
    (old mid new : D) (shown : Blocks) (P : Blocks → Type 0) → P shown
    → LeavesOnly moment left_since recovery old mid P
    → AddsOnly moment left_since recovery mid new (StopSince Shut shown)
    → LeavesOnly moment left_since recovery old new P
then_read moment left_since recovery old mid new shown P there before more =
    leaves_weaker moment left_since recovery old new (λ c. P c ⊎ StopSince Shut shown c) P
    (λ c. ⊎_elim (λ (p : P c). p) (λ stop. subst P (sym stop) there))
    (a_run_goes_on moment left_since recovery old mid new P (StopSince Shut shown) before more)

-- no catalog of a map is none of the same map
pub same_catalog : (a b : PageMap) (m n : ℕ) → ((k : ℕ) → b k ≡ a k) → n ≡ m → HasNoCatalog a m
    → HasNoCatalog b n
same_catalog a b m n pages next none =
    subst (λ (k : ℕ). HasNoCatalog b k) (sym next)
    (subst (λ (p : PageMap). HasNoCatalog p m) (λ i k. sym (pages k) i) none)

module _ {D A : Type 0} {m : _} where
  pub shut_store : (store : Store D A m) → IsSettled store → m.honest (device_in store) → (c : Blocks)
      → m.may_leave (device_in store) c → c ≡ blocks_in store
  shut_store store settled honest = shut_is_durable (cache_in store) honest (is_settled store settled).0

  -- a store of which stops since that moment left an image of its table, or a refusal
  pub begins_so : (store : Store D A m) (moment : ℕ) (t : Table) → IsInState store (Alive t)
      → IsSettled store → IsImage (blocks_in store) t → moment ≤ m.moment (device_in store)
      → ((c : Blocks) → m.left_since (device_in store) moment c → IsRefused c ⊎ IsImage c t)
      → (CommitsWhatOpens m.recovery → IsFound (cache_in store) moment (t ∷ []) (t ∷ []))
      → BeginsWith store moment t
  begins_so store moment t alive settled image begun stops found =
      begins store moment t alive (is_alive store t alive).1.map.honest
      (closed_leaves (cache_in store) moment t (is_settled store settled).0 image begun stops found)

  -- of one that is settled a stop now is found to have left its table
  pub settled_found : (store : Store D A m) (t : Table) → m.honest (device_in store)
      → OneCommit (cache_in store) → BroughtNow (cache_in store) → IsSettled store
      → IsImage (blocks_in store) t → CommitsWhatOpens m.recovery
      → IsFound (cache_in store) (m.moment (device_in store)) (t ∷ []) (t ∷ [])
  settled_found store t honest one brought settled image opens =
      found_now (cache_in store) (t ∷ []) brought
      (settled_kept (cache_in store) t honest one (is_settled store settled).0 image opens)

  -- and so since the moment of a device of which a stop brings that back, if a run from it left nothing else
  -- that is opened
  pub opened_found : (store : Store D A m) (device : D) (t : Table) (P : Blocks → Type 0)
      → m.honest (device_in store) → OneCommit (cache_in store) → IsSettled store
      → IsImage (blocks_in store) t
      → ((k : Blocks) → m.recovery.commits device k → IsImage k t)
      → ((c : Blocks) → m.recovery.found_since device (m.moment device) c
      → BeginsOne (m.recovery.commits device) c) → ((c : Blocks) → P c → IsRefused c ⊎ IsImage c t)
      → LeavesOnly m.moment m.left_since m.recovery device (device_in store) P → CommitsWhatOpens m.recovery
      → IsFound (cache_in store) (m.moment device) (t ∷ []) (t ∷ [])
  opened_found store device t P honest one settled image commits brought images run opens =
      let brings = brings_weaker m.moment m.recovery device (device_in store) P (IsRefusedOrImageOf (t ∷ []))
      (λ c p. ⊎_elim (λ refused. inl refused) (λ there. this_one [] t c there) (images c p)) run.brings in
      let was : (k : Blocks) → m.recovery.commits device k
      → IsImageOfOne (t ∷ []) k = λ k is. image_kept k t [] k (commits k is) refl in
      record {
        now = settled_kept (cache_in store) t honest one (is_settled store settled).0 image opens;
        so_far =
            found_after m.moment m.recovery device (device_in store) (t ∷ []) (t ∷ []) (t ∷ []) opens brings
            was (λ u there. there) (λ u there. there)
            (m.moment device) (t ∷ []) (omega arith)
            (λ c is. let begun = brought c is in
            one_longer (t ∷ []) c (begun.0, was begun.0 begun.1, begun.2)) (λ u there. there);
      }

  -- a settled store that is sound begins with its table
  pub settled_begins : (store : Store D A m) (t : Table)
      → (IsHonest (cache_in store) → OnlyNow (cache_in store))
      → (IsHonest (cache_in store) → OneCommit (cache_in store))
      → (IsHonest (cache_in store) → BroughtNow (cache_in store)) → IsSettled store → store.failed ≡ false
      → IsSound store.layers t → BeginsWith store (m.moment (device_in store)) t
  settled_begins store t now one brought settled going sound =
      let is = is_settled store settled in
      let honest = sound.map.honest in
      let image =
      image_of (cache_in store) (blocks_in store) (records_in store.layers) t sound.map
      (shut_lies (cache_in store) honest is.0) (sound.catalog is.1) sound.holds in
      begins_so store (m.moment (device_in store)) t (alive_so store t going sound) settled image
      (omega arith)
      (λ c left. inr
      (subst (λ (blocks : Blocks). IsImage blocks t)
      (sym (shut_store store settled honest c (now honest c left))) image))
      (settled_found store t honest (one honest) (brought honest) settled image)
