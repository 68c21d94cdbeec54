-- Changes behind the gate: begun, and then made or broken off.
use Rattle.std.proofs.Common.{◌≡◌, ◌∙◌, true, false, None, Some, sym, ap, subst, arith, inl}
use Rattle.std.specs.Prelude.{◌↔◌, Result, Ok, Err, OnOk, IfErr, IsErrAnd}
use Rattle.block_device.specs.Device.{Blocks, LeavesOnly}
use Rattle.catalog_page.specs.Layout.{records_of}
use Rattle.live_layers.specs.Broken.{before, cause_in, told_by}
use Rattle.live_layers.specs.declared.broken.Broken.{Broken}
use Rattle.page_cache.specs.Cache.{IsHonest, IsUnchanged, KeepsMap, blocks_of, device_of, gate_of, next_of}
use Rattle.page_cache.specs.Cache.{version_of}
use Rattle.node_page.specs.Faults.{IsChangeFault}
use Rattle.page_cache.specs.Calls.{ChangesUntil, faults_behind}
use Rattle.page_cache.specs.declared.cache.PageCache.{PageCache}
use Rattle.page_file.specs.Fault.{IsOfDevice, faults_after}
use Rattle.page_file.specs.Stops.{SameButGate}
use Rattle.page_file.specs.declared.fault.Fault.{Fault}
use Rattle.page_file.specs.declared.fault.Fault.TheVariants as fault
use Rattle.page_file.specs.declared.gate.Gate.TheVariants.{Open}
use Rattle.page_file.specs.declared.header.Version.{Version}
use Rattle.plain_table.specs.Table.{Table}
use Rattle.live_layers.specs.Begun.{Begins, BeginsChange}
use Rattle.live_layers.specs.Image.{IsRefusedOrImageOf}
use Rattle.live_layers.specs.Keeping.{IsSound}
use Rattle.live_layers.specs.Staying.{KeepsPagesAndRecords}
use Rattle.live_layers.specs.declared.layers.Layers.{Layers}
use Rattle.live_layers.proofs.KeepLemmas.{leaves_as_was, nothing_moved, sound_kept, stays_in_turn}
use Rattle.live_layers.proofs.KeepLemmas.{versions_kept}
use Rattle.live_layers.proofs.QuestionLemmas.{IsSameBut}
use Rattle.live_layers.proofs.Results.{any_err, if_err, on_any_err, the_err}
use Rattle.live_layers.proofs.StopLemmas.{gate_opened, none_made, pages_written}

-- since its moment a device leaves nothing but what it may leave now
abbrev pub OnlyNow : {D A : Type 0} {m : _} → Layers D A m → Type 0
OnlyNow {D = D} {m = m} kept = (d : D) (b : Blocks) → m.honest d → m.left_since d (m.moment d) b
    → m.may_leave d b

module _ {D A : Type 0} {m : _} {T : Type 0} where
  -- an answer that hands on why a change broke off
  pub handed_on : (old new : PageCache D A m) (b : Broken) (result : Result T Broken)
      → IsErrAnd result (λ e. e ≡ b) → Begins {T = T} old new (Err b) → Begins old new result
  handed_on old new b (Ok x) is begins = elim is [ ]
  handed_on old new b (Err e) is begins =
      subst (λ (f : Broken). Begins {T = T} old new (Err f)) (sym is) begins

  -- the gate was not opened: there was no memory
  none_begun : (cache : PageCache D A m) (f : Fault) (result : Result T Broken)
      → IsErrAnd result (λ e. e ≡ before f) → f ≡ fault.Memory
      → (IsHonest cache → (c : Blocks) → m.left_since (device_of cache) (m.moment (device_of cache)) c
      → m.may_leave (device_of cache) c) → Begins cache cache result
  none_begun cache f result is memory now = handed_on cache cache (before f) result is (record {
    stops = λ ts honest rests. none_made cache ts honest (now honest) rests;
    rests = λ ts honest rests. rests;
    opened = tt;
    broke_open = λ (never : false ≡ true). absurd (cc);
    told = λ (never : false ≡ true). absurd (cc);
    stays_open = λ open'. open';
    honest = (λ h. h, λ h. h);
    next = omega arith;
    faults = sym (ap (λ (g : Fault). faults_after g (m.faults (device_of cache))) memory);
    met = inl (inl memory);
  })

  -- it was opened, was open, or was not opened
  pub gate_begun : (old new : PageCache D A m) (result : Result T Broken)
      → (IsHonest old → (c : Blocks) → m.left_since (device_of old) (m.moment (device_of old)) c
      → m.may_leave (device_of old) c)
      → (gate_of old ≡ Open → IsUnchanged old new)
      → (IsHonest old → SameButGate (blocks_of new) (blocks_of old))
      → (IsHonest old → ¬ (gate_of old ≡ Open)
      → LeavesOnly m.moment m.left_since m.recovery (device_of old) (device_of new)
      (λ c. SameButGate c (blocks_of old)))
      → (IsHonest old ↔ IsHonest new) → KeepsMap old new → OnOk result (gate_of new ≡ Open)
      → IfErr result (λ b. b.touched ≡ false) → IfErr result (λ b. IsOfDevice b.cause)
      → m.faults (device_of new) ≡ faults_behind (cause_in result) (m.faults (device_of old))
      → Begins old new result
  gate_begun old new result now was_open blocks stops honest map opened untouched met faults = record {
    stops = λ ts there rests. gate_opened old new ts there (now there) (λ open'. (was_open open').device)
        (stops there) rests;
    rests = λ ts there rests closed c same. rests (λ open'. closed ((was_open open').gate ∙ open')) c
        (same ∙ blocks there);
    opened = opened;
    broke_open =
        if_err result (λ b quiet touched. absurd (let no : true ≡ false = sym touched ∙ quiet in cc))
        untouched;
    told =
        if_err result (λ b quiet touched. absurd (let no : true ≡ false = sym touched ∙ quiet in cc))
        untouched;
    stays_open = λ open'. (was_open open').gate ∙ open';
    honest = honest;
    next = omega (arith, map.next);
    faults = faults;
    met = if_err result (λ b device. inl device) met;
  }

  -- and pages were changed behind it
  begun_and_made : {S : Type 0} (old mid new : PageCache D A m) (x : S) (y : T) → Begins old mid (Ok x)
      → ChangesUntil mid new None → Begins old new (Ok y)
  begun_and_made old mid new x y begun changes = record {
    stops = λ ts honest rests. pages_written old mid new ts (begun.honest.0 honest) begun.opened
        (begun.stops ts honest rests) (changes.gate begun.opened);
    rests = λ ts honest rests closed. absurd (closed ((changes.gate begun.opened).gate ∙ begun.opened));
    opened = (changes.gate begun.opened).gate ∙ begun.opened;
    broke_open = tt;
    told = tt;
    stays_open = λ open'. (changes.gate begun.opened).gate ∙ begun.opened;
    honest = (λ h. changes.honest.0 (begun.honest.0 h), λ h. begun.honest.1 (changes.honest.1 h));
    next = omega (arith, begun.next, changes.next);
    faults = changes.faults ∙ begun.faults;
    met = tt;
  }

  -- or half changed
  begun_and_broke : {R : Type 0} (old mid new : PageCache D A m) (x : R) (f : Fault)
      (result : Result T Broken) → IsErrAnd result (λ e. e ≡ told_by new f) → Begins old mid (Ok x)
      → ChangesUntil mid new (Some f) → IsChangeFault new f → Begins old new result
  begun_and_broke old mid new x f result is begun changes met =
      handed_on old new (told_by new f) result is (record {
        stops = λ ts honest rests. pages_written old mid new ts (begun.honest.0 honest) begun.opened
            (begun.stops ts honest rests) (changes.gate begun.opened);
        rests = λ ts honest rests closed. absurd (closed ((changes.gate begun.opened).gate ∙ begun.opened));
        opened = tt;
        broke_open = λ touched. (changes.gate begun.opened).gate ∙ begun.opened;
        told = λ touched. touched;
        stays_open = λ open'. (changes.gate begun.opened).gate ∙ begun.opened;
        honest = (λ h. changes.honest.0 (begun.honest.0 h), λ h. begun.honest.1 (changes.honest.1 h));
        next = omega (arith, begun.next, changes.next);
        faults = changes.faults ∙ ap (faults_after f) begun.faults;
        met = met;
      })

  -- what was changed, and then the version of its file
  begins_same : (old made new : PageCache D A m) (y : T) → device_of new ≡ device_of made
      → gate_of new ≡ gate_of made → next_of new ≡ next_of made → Begins old made (Ok y) → Begins old new (Ok y)
  begins_same old made new y device gate next b = record {
    stops = λ ts honest rests. subst
        (λ (d : D). LeavesOnly m.moment m.left_since m.recovery (device_of old) d (IsRefusedOrImageOf ts))
        (sym device) (b.stops ts honest rests);
    rests = λ ts honest rests closed. absurd (closed (gate ∙ b.opened));
    opened = gate ∙ b.opened;
    broke_open = tt;
    told = tt;
    stays_open = λ open'. gate ∙ b.stays_open open';
    honest = (λ h. subst m.honest (sym device) (b.honest.0 h), λ h. b.honest.1 (subst m.honest device h));
    next = omega (arith, b.next, next);
    faults = ap m.faults device ∙ b.faults;
    met = tt;
  }

  -- ---- of layers

  -- there was no memory
  pub no_memory : {made : Version} (kept : Layers D A m) (f : Fault) (result : Result T Broken)
      → IsErrAnd result (λ e. e ≡ before f) → f ≡ fault.Memory → OnlyNow kept
      → BeginsChange kept kept made result
  no_memory kept f result is memory now = record {
    begins =
        none_begun kept.cache f result is memory (λ honest c left. now (device_of kept.cache) c honest left);
    untouched = λ t sound. any_err result _ (λ b quiet. sound);
    kept = any_err result _ (λ b quiet. nothing_moved kept);
    written = on_any_err result _ (λ was. was);
    versions = leaves_as_was kept kept (before f) result is (versions_kept kept kept (nothing_moved kept));
  }

  -- the gate was not opened
  pub not_opened : {made : Version} (old new : Layers D A m) (b : Broken) (result : Result T Broken)
      → IsErrAnd result (λ e. e ≡ b) → Begins {T = T} old.cache new.cache (Err b)
      → ((t : Table) → IsSound old t → IsSound new t) → KeepsPagesAndRecords old new
      → BeginsChange old new made result
  not_opened old new b result is begins sound keeps = record {
    begins = handed_on old.cache new.cache b result is begins;
    untouched = λ t was. any_err result _ (λ _ quiet. sound t was);
    kept = any_err result _ (λ _ quiet. keeps);
    written = on_any_err result _ keeps.written;
    versions = leaves_as_was old new b result is (versions_kept old new keeps);
  }

  -- it was, and pages were half changed, or changed
  pub broke_behind : {R : Type 0} {made : Version} (old mid new : Layers D A m) {x : R} (f : Fault)
      (result : Result T Broken) → IsErrAnd result (λ e. e ≡ told_by new.cache f) → IsSameBut mid new
      → Begins old.cache mid.cache (Ok x)
      → ((t : Table) → IsSound old t → IsSound mid t) → KeepsPagesAndRecords old mid
      → ChangesUntil mid.cache new.cache (Some f) → IsChangeFault new.cache f
      → BeginsChange old new made result
  broke_behind old mid new {x} f result is same begun sound keeps changes met = record {
    begins = begun_and_broke old.cache mid.cache new.cache x f result is begun changes met;
    untouched =
        λ t was. the_err result (told_by new.cache f) (λ e. e.touched ≡ false → IsSound new t) is
        (λ quiet. sound_kept mid new t (changes.untouched quiet) same.0 same.1 (λ w. sym same.2 ∙ w)
        (sound t was));
    kept = the_err result (told_by new.cache f) (λ e. e.touched ≡ false → KeepsPagesAndRecords old new) is
        (λ quiet. stays_in_turn old mid new begun.honest.0 keeps
        (record {
          map = changes.untouched quiet;
          records = ap records_of same.0;
          written = λ was. same.2 ∙ was;
          newest = same.3;
        }));
    written = on_any_err result _ (λ was. same.2 ∙ keeps.written was);
    versions = leaves_as_was old new (told_by new.cache f) result is (record {
      version = λ honest. changes.version (begun.honest.0 honest) ∙ keeps.map.version honest;
      newest = same.3 ∙ keeps.newest;
    });
  }

  pub made_and_admitted : {S : Type 0} {made : Version} (old mid new : Layers D A m)
      (cache : PageCache D A m) {x : S} {y : T}
      → device_of new.cache ≡ device_of cache → gate_of new.cache ≡ gate_of cache
      → next_of new.cache ≡ next_of cache → Begins old.cache mid.cache (Ok x)
      → ChangesUntil mid.cache cache None
      → (IsHonest old.cache → version_of new.cache ≡ made) → new.newest ≡ old.newest
      → BeginsChange old new made (Ok y)
  made_and_admitted old mid new cache {x} {y} device gate next begun changes version newest = record {
    begins =
        begins_same old.cache cache new.cache y device gate next
        (begun_and_made old.cache mid.cache cache x y begun changes);
    untouched = λ t sound. tt;
    kept = tt;
    written = tt;
    versions = record { done = version; undone = λ honest. tt; newest = newest };
  }

  pub made_behind : {S : Type 0} (old mid new : Layers D A m) (cache : PageCache D A m) {x : S} {y : T}
      → new.cache ≡ cache → Begins old.cache mid.cache (Ok x) → KeepsPagesAndRecords old mid
      → ChangesUntil mid.cache cache None → new.newest ≡ mid.newest
      → BeginsChange old new (version_of old.cache) (Ok y)
  made_behind old mid new cache {x} {y} same begun keeps changes newest = record {
    begins =
        subst (λ (c : PageCache D A m). Begins old.cache c (Ok y)) (sym same)
        (begun_and_made old.cache mid.cache cache x y begun changes);
    untouched = λ t sound. tt;
    kept = tt;
    written = tt;
    versions = record {
      done = λ honest. ap (λ (c : PageCache D A m). version_of c) same
          ∙ changes.version (begun.honest.0 honest) ∙ keeps.map.version honest;
      undone = λ honest. tt;
      newest = newest ∙ keeps.newest;
    };
  }
