-- What a stop leaves of the blocks under a cache: a refusal, or an image.
use Rattle.live_layers.proofs.RecoveryLemmas.{found_after, kept_after}
use Rattle.std.proofs.Common.{◌≡◌, ◌∙◌, ◌⊎◌, suc, List, [], ◌∷◌, drop, Some, refl, sym, ap, subst, arith, inl}
use Rattle.std.proofs.Common.{inr, ⊎_elim}
use Rattle.std.specs.List.{Contains}
use Rattle.std.specs.Prelude.{option_and_then}
use Rattle.block_device.specs.Device.{Blocks, LeavesOnly, Only}
use Rattle.block_device.specs.Moments.{leaves_then, leaves_weaker, started, brings_weaker}
use Rattle.catalog_page.specs.Layout.{Record, records_at}
use Rattle.page_cache.specs.Cache.{IsHonest, IsPageMap, KeepsGate, LiesIn, blocks_of, device_of, gate_of}
use Rattle.page_cache.specs.Cache.{next_of, pages, version_of}
use Rattle.page_cache.specs.declared.cache.PageCache.{PageCache}
use Rattle.page_cache.proofs.Behind.{aside_lies}
use Rattle.page_file.specs.Aside.{FindsSame, aside_passes}
use Rattle.page_file.specs.Laws.{a_stop_follows_the_gate, a_stop_now_leaves_all_but_the_gate, is_open}
use Rattle.page_file.specs.Laws.{stops_of_a_run_go_on}
use Rattle.page_file.specs.Opening.{IsRefused}
use Rattle.page_file.specs.Pages.{next_in, pages_in}
use Rattle.page_file.specs.Stops.{SameButGate, StopSince}
use Rattle.page_file.specs.declared.gate.Gate.{Gate}
use Rattle.page_file.specs.declared.gate.Gate.TheVariants.{Shut, Open, Unsure}
use Rattle.plain_table.specs.Table.{Table}
use Rattle.store_law.specs.Stops.{AfterStop, Stops, tables_left}
use Rattle.store_law.specs.Stops.AfterStop.{Surely, Perhaps}
use Rattle.live_layers.specs.Image.{IsImage, IsRefusedOrImageOf}
use Rattle.live_layers.specs.Keeping.{Leaves, LeavesAtRest, RestLeavesOneOf}
use Rattle.live_layers.specs.Layers.{Holds, catalog_in}
use Rattle.live_layers.proofs.KeepLemmas.{same_pages_hold}

pub or_this : (ts : List Table) (t : Table) (c : Blocks) → IsRefusedOrImageOf ts c
    → IsRefusedOrImageOf (t ∷ ts) c
or_this ts t c (inl refused) = inl refused
or_this ts t c (inr (u, (i, lt, is), image)) = inr (u, (suc i, omega (arith, lt), is), image)

pub this_one : (ts : List Table) (t : Table) (c : Blocks) → IsImage c t → IsRefusedOrImageOf (t ∷ ts) c
this_one ts t c image = inr (t, (0, omega arith, refl), image)

pub images_among : (ts us : List Table) (c : Blocks) → ((t : Table) → Contains ts t → Contains us t)
    → IsRefusedOrImageOf ts c → IsRefusedOrImageOf us c
images_among ts us c among (inl refused) = inl refused
images_among ts us c among (inr (u, there, image)) = inr (u, among u there, image)

-- blocks in which the pages of an image are found, whatever their gate
pub image_aside : (blocks c : Blocks) (t : Table) → IsImage blocks t → SameButGate c blocks
    → IsRefused c ⊎ IsImage c t
image_aside blocks c t image same =
    ⊎_elim (λ (refused : IsRefused c). inl refused) (λ (found : FindsSame c blocks). inr (record {
      passes = found.passes;
      free = found.sound.1 image.free;
      records = image.records;
      spelled = ap (option_and_then records_at) (found.pages_there 2) ∙ image.spelled;
      holds = same_pages_hold (pages_in blocks) (pages_in c) (next_in blocks) (next_in c) image.records t
          found.pages_there found.next found.version image.holds;
    })) (aside_passes c blocks same)

-- what a stop leaves by such a gate
pub by_gate : (gate : Gate) (shown c : Blocks) (ts : List Table)
    → (¬ (gate ≡ Open) → SameButGate c shown → IsRefusedOrImageOf ts c) → StopSince gate shown c
    → IsRefusedOrImageOf ts c
by_gate Shut shown c ts rests stop = rests (λ e. cc) (ap (drop 1) stop)
by_gate Open shown c ts rests stop = inl stop
by_gate Unsure shown c ts rests (inl refused) = inl refused
by_gate Unsure shown c ts rests (inr same) = rests (λ e. cc) same

module _ {D A : Type 0} {m : _} where
  -- blocks in which the pages lie that hold a table, with the catalog that names its layers, are an image of
  -- it
  pub image_of : (cache : PageCache D A m) (blocks : Blocks) (records : List Record) (t : Table)
      → IsPageMap cache → LiesIn cache blocks → catalog_in (pages cache) ≡ Some records
      → Holds (pages cache) (next_of cache) (version_of cache) records t
      → IsImage blocks t
  image_of cache blocks records t map lies spelled h = record {
    passes = lies.passes;
    free = lies.sound.0 map;
    records = records;
    spelled = ap (option_and_then records_at) (lies.pages_there 2) ∙ spelled;
    holds = same_pages_hold (pages cache) (pages_in blocks) (next_of cache) (next_in blocks) records t
        lies.pages_there lies.next lies.version h;
  }

  -- ---- at rest

  pub rest_leaves : (cache : PageCache D A m) (ts : List Table) → IsHonest cache → RestLeavesOneOf cache ts
      → (c : Blocks) → m.may_leave (device_of cache) c → IsRefusedOrImageOf ts c
  rest_leaves cache ts honest rests c left = ⊎_elim
      (λ (opened : gate_of cache ≡ Open). inl
      (subst (λ (gate : Gate). StopSince gate (blocks_of cache) c) opened
      (a_stop_follows_the_gate cache.file c honest left)))
      (λ (closed : ¬ (gate_of cache ≡ Open)). rests closed c
      (a_stop_now_leaves_all_but_the_gate cache.file c honest closed left))
      (is_open (gate_of cache))

  pub shut_is_durable : (cache : PageCache D A m) → IsHonest cache → gate_of cache ≡ Shut
      → Only (blocks_of cache) (m.may_leave (device_of cache))
  shut_is_durable cache honest shut =
      λ c left. subst (λ (gate : Gate). StopSince gate (blocks_of cache) c) shut
      (a_stop_follows_the_gate cache.file c honest left)

  pub rests_on_image : (cache : PageCache D A m) (t : Table) → IsImage (blocks_of cache) t
      → RestLeavesOneOf cache (t ∷ [])
  rests_on_image cache t image =
      λ closed c same. ⊎_elim (λ refused. inl refused) (λ there. this_one [] t c there)
      (image_aside (blocks_of cache) c t image same)

  -- a cache that holds the table and its catalog rests on it
  pub rests_on_table : (cache : PageCache D A m) (ts : List Table) (records : List Record) (t : Table)
      → IsPageMap cache → catalog_in (pages cache) ≡ Some records
      → Holds (pages cache) (next_of cache) (version_of cache) records t → RestLeavesOneOf cache (t ∷ ts)
  rests_on_table cache ts records t map spelled held = λ closed c same.
      ⊎_elim (λ refused. inl refused)
      (λ lies. this_one ts t c (image_of cache c records t map lies spelled held))
      (aside_lies cache c map.honest closed same)

  -- ---- a change

  -- no call was made
  pub none_made : (cache : PageCache D A m) (ts : List Table) → IsHonest cache
      → ((c : Blocks) → m.left_since (device_of cache) (m.moment (device_of cache)) c
      → m.may_leave (device_of cache) c) → RestLeavesOneOf cache ts
      → LeavesOnly m.moment m.left_since m.recovery (device_of cache) (device_of cache)
      (IsRefusedOrImageOf ts)
  none_made cache ts honest now rests =
      started m.moment m.left_since m.recovery (device_of cache) (IsRefusedOrImageOf ts)
      (λ c left. rest_leaves cache ts honest rests c (now c left))

  -- the gate was opened, was open, or was not opened
  pub gate_opened : (old new : PageCache D A m) (ts : List Table) → IsHonest old
      → ((c : Blocks) → m.left_since (device_of old) (m.moment (device_of old)) c
      → m.may_leave (device_of old) c) → (gate_of old ≡ Open → device_of new ≡ device_of old)
      → (¬ (gate_of old ≡ Open)
      → LeavesOnly m.moment m.left_since m.recovery (device_of old) (device_of new)
      (λ c. SameButGate c (blocks_of old))) → RestLeavesOneOf old ts
      → LeavesOnly m.moment m.left_since m.recovery (device_of old) (device_of new) (IsRefusedOrImageOf ts)
  gate_opened old new ts honest now was_open stops rests = ⊎_elim
      (λ (opened : gate_of old ≡ Open). subst
      (λ (device : D). LeavesOnly m.moment m.left_since m.recovery (device_of old) device
      (IsRefusedOrImageOf ts)) (sym (was_open opened)) (none_made old ts honest now rests))
      (λ (closed : ¬ (gate_of old ≡ Open)). leaves_weaker m.moment m.left_since m.recovery (device_of old)
      (device_of new) (λ c. SameButGate c (blocks_of old)) (IsRefusedOrImageOf ts)
      (λ c same. rests closed c same) (stops closed))
      (is_open (gate_of old))

  -- and pages were written behind it
  pub pages_written : (old mid new : PageCache D A m) (ts : List Table) → IsHonest mid → gate_of mid ≡ Open
      → LeavesOnly m.moment m.left_since m.recovery (device_of old) (device_of mid) (IsRefusedOrImageOf ts)
      → KeepsGate mid new
      → LeavesOnly m.moment m.left_since m.recovery (device_of old) (device_of new) (IsRefusedOrImageOf ts)
  pages_written old mid new ts honest opened before keeps =
      leaves_weaker m.moment m.left_since m.recovery (device_of old) (device_of new)
      (λ c. IsRefusedOrImageOf ts c ⊎ StopSince (gate_of mid) (blocks_of mid) c) (IsRefusedOrImageOf ts)
      (λ c. ⊎_elim (λ (p : IsRefusedOrImageOf ts c). p)
      (λ stop. inl (subst (λ (gate : Gate). StopSince gate (blocks_of mid) c) opened stop)))
      (stops_of_a_run_go_on (device_of old) mid.file new.file (IsRefusedOrImageOf ts) honest before keeps)

  -- ---- a closing

  pub table_closed : (old mid new : D) (cache : PageCache D A m) (Q : Blocks → Type 0) (ts : List Table)
      (records : List Record) (t : Table)
      → LeavesOnly m.moment m.left_since m.recovery old mid (IsRefusedOrImageOf ts)
      → LeavesOnly m.moment m.left_since m.recovery mid new (λ c. IsRefused c ⊎ (Q c × LiesIn cache c))
      → IsPageMap cache → catalog_in (pages cache) ≡ Some records
      → Holds (pages cache) (next_of cache) (version_of cache) records t
      → LeavesOnly m.moment m.left_since m.recovery old new (IsRefusedOrImageOf (t ∷ ts))
  table_closed old mid new cache Q ts records t written settled map spelled held =
      leaves_then m.moment m.left_since m.recovery old mid new (IsRefusedOrImageOf (t ∷ ts))
      (leaves_weaker m.moment m.left_since m.recovery old mid (IsRefusedOrImageOf ts)
      (IsRefusedOrImageOf (t ∷ ts)) (or_this ts t) written)
      (leaves_weaker m.moment m.left_since m.recovery mid new (λ c. IsRefused c ⊎ (Q c × LiesIn cache c))
      (IsRefusedOrImageOf (t ∷ ts))
      (λ c. ⊎_elim (λ refused. inl refused)
      (λ there. this_one ts t c (image_of cache c records t map there.1 spelled held))) settled)

  -- ---- a question

  -- a call that keeps the gate leaves no more than what was left at rest
  pub kept_run : (old new : PageCache D A m) (ts : List Table) → IsHonest old
      → ((c : Blocks) → m.left_since (device_of old) (m.moment (device_of old)) c
      → m.may_leave (device_of old) c) → RestLeavesOneOf old ts → KeepsGate old new
      → LeavesOnly m.moment m.left_since m.recovery (device_of old) (device_of new) (IsRefusedOrImageOf ts)
  kept_run old new ts honest now rests keeps =
      leaves_weaker m.moment m.left_since m.recovery (device_of old) (device_of new)
      (λ c. IsRefusedOrImageOf ts c ⊎ StopSince (gate_of old) (blocks_of old) c) (IsRefusedOrImageOf ts)
      (λ c. ⊎_elim (λ (p : IsRefusedOrImageOf ts c). p)
      (λ stop. by_gate (gate_of old) (blocks_of old) c ts (λ closed same. rests closed c same) stop))
      (stops_of_a_run_go_on (device_of old) old.file new.file (IsRefusedOrImageOf ts) honest
      (none_made old ts honest now rests) keeps)

  pub kept_rests : (old new : PageCache D A m) (ts : List Table) → IsHonest old → KeepsGate old new
      → RestLeavesOneOf old ts → RestLeavesOneOf new ts
  kept_rests old new ts honest keeps rests = λ closed c same.
      let was : ¬ (gate_of old ≡ Open) = λ opened. closed (keeps.gate ∙ opened) in
      rests was c (same ∙ ap (drop 1) (keeps.blocks honest was))

  -- so stops leave of it what they left before
  pub leaves_kept : (old new : PageCache D A m) (stops : Stops) → IsHonest old → KeepsGate old new
      → Leaves old stops → Leaves new stops
  leaves_kept old new stops honest keeps leaves = record {
    now = rests stops.now leaves.now;
    begun = omega (arith, leaves.begun, (keeps.stops honest).later);
    so_far =
        λ c left. ⊎_elim (leaves.so_far c)
        (λ stop. images_among (tables_left stops.now) stops.so_far c leaves.among
        (left_now stops.now c leaves.now stop)) ((keeps.stops honest).before stops.since c leaves.begun left);
    among = leaves.among;
    kept_among = leaves.kept_among;
    kept_before = leaves.kept_before;
    found = λ opens.
        let was = leaves.found opens in
        let brings =
        brings_weaker m.moment m.recovery (device_of old) (device_of new)
        (StopSince (gate_of old) (blocks_of old)) (IsRefusedOrImageOf (tables_left stops.now))
        (λ c stop. left_now stops.now c leaves.now stop) (keeps.stops honest).brings in
        record {
          now = kept_after m.moment m.recovery (device_of old) (device_of new) (tables_left stops.now)
              stops.kept stops.kept opens brings was.now (λ t there. there) leaves.kept_among;
          so_far =
              found_after m.moment m.recovery (device_of old) (device_of new) (tables_left stops.now)
              stops.kept stops.kept opens brings was.now (λ t there. there) leaves.kept_among stops.since
              stops.kept_so_far leaves.begun was.so_far leaves.kept_before;
        };
  }
    where
      closed : gate_of old ≡ Shut → ¬ (gate_of old ≡ Open)
      closed shut opened = let no : Shut ≡ Open = sym shut ∙ opened in absurd (cc)

      rests : (now : AfterStop) → LeavesAtRest old now → LeavesAtRest new now
      rests (Surely t) at = (
        keeps.gate ∙ at.0,
        subst (λ (blocks : Blocks). IsImage blocks t) (sym (keeps.blocks honest (closed at.0))) at.1,
      )
      rests (Perhaps ts) at = kept_rests old new ts honest keeps at

      left_now : (now : AfterStop) (c : Blocks) → LeavesAtRest old now
          → StopSince (gate_of old) (blocks_of old) c → IsRefusedOrImageOf (tables_left now) c
      left_now (Surely t) c at stop =
          let same : c ≡ blocks_of old =
          subst (λ (gate : Gate). StopSince gate (blocks_of old) c) at.0 stop in
          this_one [] t c (subst (λ (blocks : Blocks). IsImage blocks t) (sym same) at.1)
      left_now (Perhaps ts) c at stop =
          by_gate (gate_of old) (blocks_of old) c ts (λ shut same. at shut c same) stop
