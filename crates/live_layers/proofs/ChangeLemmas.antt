-- What the layers promise of a change that was made, refused or broken off.
use Rattle.std.proofs.Common.{◌≡◌, ◌∙◌, ℕ, Bool, true, false, cond, List, Option, None, Some, refl, sym, ap}
use Rattle.std.proofs.Common.{◌⊎◌, subst, inl, inr, ⊎_elim}
use Rattle.std.specs.Prelude.{Result, Ok, Err, OnErr, OnOk, IfErr}
use Rattle.block_device.specs.Moments.{leaves_then}
use Rattle.live_layers.specs.Broken.{cause_in}
use Rattle.live_layers.specs.declared.broken.Broken.{Broken}
use Rattle.page_cache.specs.Cache.{IsHonest, KeepsGate, device_of, gate_of, touched_of, version_of}
use Rattle.node_page.specs.Faults.{IsChangeFault}
use Rattle.page_cache.specs.Calls.{faults_behind}
use Rattle.page_cache.specs.declared.cache.PageCache.{PageCache}
use Rattle.page_file.specs.Fault.{IsOfDevice, faults_after}
use Rattle.page_file.specs.declared.fault.Fault.{Fault}
use Rattle.page_file.specs.declared.fault.Fault.TheVariants as fault
use Rattle.page_file.specs.declared.gate.Gate.TheVariants.{Open}
use Rattle.page_file.specs.declared.header.Version.{Version}
use Rattle.plain_table.specs.Commands.{Command}
use Rattle.plain_table.specs.Step.{after, answer_of, changed, kept_or, refusal_of, refused_or, reply_of}
use Rattle.plain_table.specs.Step.Answer.{Done, Refused}
use Rattle.plain_table.specs.Table.{Table}
use Rattle.plain_table.specs.declared.refusal.Refusal.{Refusal}
use Rattle.store_law.specs.Lawful.{IsFault}
use Rattle.tree_node.specs.Trees.{Tree}
use Rattle.live_layers.specs.Begun.{Begins, BeginsChange}
use Rattle.live_layers.specs.Changes.{ChangeLeaves, GoesOn, IsBegun, IsChange, IsChangeBy, IsChanged}
use Rattle.live_layers.specs.Changes.{IsFaultOfChange, KeepsInChange, KeepsInQuestion, OnBroken, OnRefused}
use Rattle.live_layers.specs.Changes.{Rose}
use Rattle.live_layers.specs.Faults.{HasUnmadeCause, IsMet, as_refusal, change_of, is_plain}
use Rattle.live_layers.specs.Image.{IsRefusedOrImageOf}
use Rattle.live_layers.specs.Inserting.{IsAllowedOr}
use Rattle.live_layers.specs.Keeping.{ChangesTree, IsSound, IsWritten}
use Rattle.live_layers.specs.Refusals.{IsOfNone, Refuses, refusals_in}
use Rattle.live_layers.specs.Staying.{KeepsPagesAndRecords, LeavesVersion}
use Rattle.live_layers.specs.declared.layers.Layers.{Layers}
use Rattle.live_layers.specs.declared.unmade.Unmade.{Unmade}
use Rattle.live_layers.specs.declared.unmade.Unmade.TheVariants as unmade
use Rattle.live_layers.proofs.AskLemmas.{risen_of, same_count}
use Rattle.live_layers.proofs.BegunLemmas.{OnlyNow}
use Rattle.live_layers.proofs.KeepLemmas.{stays_in_turn}
use Rattle.live_layers.proofs.QuestionLemmas.{fault_goes_on, fault_may, refuses_unasked}
use Rattle.live_layers.proofs.ReplaceLemmas.{changes_before}
use Rattle.live_layers.proofs.Results.{on_ok}
use Rattle.live_layers.proofs.StopLemmas.{kept_rests, kept_run}

-- a command that is refused changes nothing
refused_is_reply : (t : Table) (c : Command) (r : Refusal) → refusal_of t c ≡ Some r
    → (Refused r ≡ reply_of t c) × (after t c ≡ t)
refused_is_reply t c r h = (
  sym (ap (λ (o : Option Refusal). refused_or o (answer_of t c)) h),
  ap (λ (o : Option Refusal). kept_or o t (changed t c)) h,
)

-- ---- refused, or made without being begun

-- a call that keeps the gate, where a change that is begun changes the table
gate_kept : {D A : Type 0} {m : _} (old new : Layers D A m) (t : Table) (c : Command)
    (result : Result (Unit {0}) Unmade) → OnlyNow old → IsSound old t → KeepsGate old.cache new.cache
    → (¬ (after t c ≡ t) → IsBegun result → ⊥) → ChangeLeaves old new t c result
gate_kept old new t c result now sound keeps unbegun = record {
  stops = λ ts rests. kept_run old.cache new.cache ts sound.map.honest
      (λ b left. now (device_of old.cache) b sound.map.honest left) rests keeps;
  rests = λ ts rests. kept_rests old.cache new.cache ts sound.map.honest keeps rests;
  opened = λ other begun. absurd (unbegun other begun);
  quiet = λ same. keeps;
}

module _ {D A : Type 0} {m : _} {T : Type 0} (old new : Layers D A m) where
  pub refused_keeps : {made : Version} (r : Refusal) → KeepsInQuestion {T = T} old new (Err r)
      → KeepsInChange old new made (Err (unmade.Refused r))
  refused_keeps r keeps = record {
    refused = keeps.trees;
    touched = tt;
    goes_on = keeps.goes_on;
    written = keeps.trees.written;
    stays_open = λ open'. keeps.gate.gate ∙ open';
    honest = keeps.gate.honest.0;
    cause = record { made = tt; unmade = keeps.cause.refused };
    met = inl keeps.met;
    versions = record { done = λ honest. tt; undone = keeps.trees.map.version; newest = keeps.trees.newest };
  }

  pub refused_change : (t : Table) (c : Command) (r : Refusal) → OnlyNow old
      → KeepsInQuestion {T = T} old new (Err r) → IsSound old t
      → IsAllowedOr {T = T} (Rose old new) (refusal_of t c) (Err r)
      → IsChange old new t c (Err (unmade.Refused r))
  refused_change t c r now keeps sound why = record {
    changed = (
      keeps.sound t sound,
      ⊎_elim (λ by_table. inl (refused_is_reply t c r by_table)) (λ failed. inr failed) why,
    );
    leaves = gate_kept old new t c (Err (unmade.Refused r)) now sound keeps.gate (λ other begun. begun);
  }

  -- one that the table does not refuse and that leaves it as it is
  pub unbegun_keeps : {x : T} → KeepsInQuestion old new (Ok x)
      → KeepsInChange old new (version_of old.cache) (Ok tt)
  unbegun_keeps keeps =
      record {
        refused = tt;
        touched = tt;
        goes_on = tt;
        written = tt;
        stays_open = λ open'. keeps.gate.gate ∙ open';
        honest = keeps.gate.honest.0;
        cause = record { made = keeps.cause.ok; unmade = tt };
        met = tt;
        versions =
            record { done = keeps.trees.map.version; undone = λ honest. tt; newest = keeps.trees.newest };
      }

  pub unbegun_change : (t : Table) (c : Command) {x : T} → OnlyNow old → KeepsInQuestion old new (Ok x)
      → IsSound old t → refusal_of t c ≡ None → Done ≡ answer_of t c → after t c ≡ t
      → IsChange old new t c (Ok tt)
  unbegun_change t c now keeps sound none done same = record {
    changed = (
      done ∙ sym (ap (λ (o : Option Refusal). refused_or o (answer_of t c)) none),
      subst (IsSound new) (sym same) (keeps.sound t sound),
    );
    leaves = gate_kept old new t c (Ok tt) now sound keeps.gate (λ other begun. other same);
  }

-- one that is refused before anything is asked of the pages
pub refused_by : {D A : Type 0} {m : _} (kept : Layers D A m) (c : Command) (r : Refusal) → OnlyNow kept
    → is_plain r ≡ true
    → ((t : Table) → IsSound kept t → IsAllowedOr {T = Unit {0}} (Rose kept kept) (refusal_of t c) (Err r))
    → Refuses (refusals_in kept c) r ⊎ IsOfNone r → IsChangeBy kept kept c (Err (unmade.Refused r))
refused_by kept c r now plain why in_turn =
    record {
      keeps = refused_keeps kept kept r unasked;
      lawful = λ t sound. refused_change kept kept t c r now unasked sound (why t sound);
      in_turn = in_turn;
    }
  where
    unasked : KeepsInQuestion {T = Unit {0}} kept kept (Err r)
    unasked = refuses_unasked kept r plain

-- ---- begun after calls that only asked

-- what ends a change, as a refusal and as the fault that broke it off
ends : (rose : Type 0) (f : Fault) → IsOfDevice f → (f ≡ fault.Device → rose)
    → IsFault rose (as_refusal f) × IsFaultOfChange rose f
ends rose f (inl e) risen =
    subst (λ (x : Fault). IsFault rose (as_refusal x) × IsFaultOfChange rose x) (sym e) (tt, tt)
ends rose f (inr e) risen =
    subst (λ (x : Fault). IsFault rose (as_refusal x) × IsFaultOfChange rose x) (sym e) (risen e, risen e)

broken_cause : (before now : ℕ) (b : Broken) (touched : Bool) → now ≡ faults_after b.cause before
    → HasUnmadeCause before now
    (Err (cond touched (unmade.Broken b.cause) (unmade.Refused (as_refusal b.cause))))
broken_cause before now b true e = record { made = tt; unmade = e }
broken_cause before now b false e = record { made = tt; unmade = e ∙ sym (same_count b.cause before) }

begun_cause : (before now : ℕ) (made : Result (Unit {0}) Broken) → now ≡ faults_behind (cause_in made) before
    → HasUnmadeCause before now (change_of made)
begun_cause before now (Ok u) e = record { made = e; unmade = tt }
begun_cause before now (Err b) e = broken_cause before now b b.touched e

-- what broke it off was met
fault_met : {D A : Type 0} {m : _} (cache : PageCache D A m) (f : Fault) → IsChangeFault cache f
    → IsMet cache (unmade.Refused (as_refusal f))
fault_met cache f (inl device) = inl (fault_may f (inl device))
fault_met cache f (inr (inl full)) = inr (ap as_refusal full.0, full.1)
fault_met cache f (inr (inr damaged)) = inl (fault_may f (inr damaged))

begun_met : {D A : Type 0} {m : _} (cache : PageCache D A m) (made : Result (Unit {0}) Broken)
    → IfErr made (λ b. IsChangeFault cache b.cause) → IfErr (change_of made) (IsMet cache)
begun_met cache (Ok u) met = tt
begun_met cache (Err b) met = by_touch b.touched
  where
    by_touch : (touched : Bool)
        → IsMet cache (cond touched (unmade.Broken b.cause) (unmade.Refused (as_refusal b.cause)))
    by_touch true = met
    by_touch false = fault_met cache b.cause met

-- what is known where pages were changed is known of the change
pub made_so : (P : Type 0) (made : Result (Unit {0}) Broken) (result : Result (Unit {0}) Unmade)
    → result ≡ change_of made → OnOk made P → OnOk result P
made_so P (Ok u) result is p = subst (λ (r : Result (Unit {0}) Unmade). OnOk r P) (sym is) p
made_so P (Err b) result is p = subst (λ (r : Result (Unit {0}) Unmade). OnOk r P) (sym is) p

-- and where they were not
unmade_so : (P Q : Type 0) (made : Result (Unit {0}) Broken) → (P → Q) → OnErr made P
    → OnErr (change_of made) Q
unmade_so P Q (Ok u) f p = p
unmade_so P Q (Err b) f p = f p

-- and where no page was touched
refused_so : (P Q : Type 0) (made : Result (Unit {0}) Broken) → (P → Q)
    → IfErr made (λ b. b.touched ≡ false → P) → OnRefused (change_of made) Q
refused_so P Q (Ok u) f kept = tt
refused_so P Q (Err b) f kept = untouched b.touched kept
  where
    untouched : (touched : Bool) → (touched ≡ false → P)
        → OnRefused (Err (cond touched (unmade.Broken b.cause) (unmade.Refused (as_refusal b.cause)))) Q
    untouched true kept = tt
    untouched false kept = f (kept refl)

-- it is said to have broken off only where a page was touched
broken_so : (P : Type 0) (made : Result (Unit {0}) Broken) → IfErr made (λ b. b.touched ≡ true → P)
    → OnBroken (change_of made) P
broken_so P (Ok u) told = tt
broken_so P (Err b) told = by_touch b.touched told
  where
    by_touch : (touched : Bool) → (touched ≡ true → P)
        → OnBroken (Err (cond touched (unmade.Broken b.cause) (unmade.Refused (as_refusal b.cause)))) P
    by_touch true told = told refl
    by_touch false told = tt

-- what broke off before a page was touched is answered by its fault
begun_goes_on : (made : Result (Unit {0}) Broken) → GoesOn (change_of made)
begun_goes_on (Ok u) = tt
begun_goes_on (Err b) = by_touch b.touched
  where
    by_touch : (touched : Bool)
        → GoesOn (Err (cond touched (unmade.Broken b.cause) (unmade.Refused (as_refusal b.cause))))
    by_touch true = tt
    by_touch false = fault_goes_on b.cause

module _ {D A : Type 0} {m : _} {T : Type 0} (old mid new : Layers D A m) {x : T}
    (asked : KeepsInQuestion old mid (Ok x)) (made : Result (Unit {0}) Broken) {by : Version}
    (begun : BeginsChange mid new by made)
    (result : Result (Unit {0}) Unmade) (is : result ≡ change_of made) where
  counted : m.faults (device_of new.cache) ≡ faults_behind (cause_in made) (m.faults (device_of old.cache))
  counted = begun.begins.faults ∙ ap (faults_behind (cause_in made)) asked.cause.ok

  -- the file was made what it had to be made, which may be said of it as it was before the questions
  begun_version : {now : Version} → (IsHonest old.cache → by ≡ now)
      → LeavesVersion old new now (change_of made)
  begun_version {now} same = record {
    done = λ honest. made_so (version_of new.cache ≡ now) made (change_of made) refl
        (on_ok made (λ e. e ∙ same honest) (begun.versions.done (asked.gate.honest.0 honest)));
    undone = λ honest. unmade_so (version_of new.cache ≡ version_of mid.cache)
        (version_of new.cache ≡ version_of old.cache) made (λ e. e ∙ asked.trees.map.version honest)
        (begun.versions.undone (asked.gate.honest.0 honest));
    newest = begun.versions.newest ∙ asked.trees.newest;
  }

  pub begun_keeps : {now : Version} → (IsHonest old.cache → by ≡ now) → KeepsInChange old new now result
  begun_keeps {now} same = subst (KeepsInChange old new now) (sym is) (record {
    refused =
        refused_so (KeepsPagesAndRecords mid new) (KeepsPagesAndRecords old new) made
        (stays_in_turn old mid new asked.gate.honest.0 asked.trees) begun.kept;
    touched = broken_so (touched_of new.cache ≡ true) made begun.begins.told;
    goes_on = begun_goes_on made;
    written =
        unmade_so (IsWritten mid → IsWritten new) (IsWritten old → IsWritten new) made
        (λ kept was. kept (asked.trees.written was)) begun.written;
    stays_open = λ open'. begun.begins.stays_open (asked.gate.gate ∙ open');
    honest = λ honest. begun.begins.honest.0 (asked.gate.honest.0 honest);
    cause = begun_cause _ _ made counted;
    met = begun_met new.cache made begun.begins.met;
    versions = begun_version same;
  })

  -- where the version that it had to be made is said so already
  pub begun_keeps_so : KeepsInChange old new by result
  begun_keeps_so = begun_keeps (λ honest. refl)

  -- the tree of a layer is changed behind the questions that found it
  pub begun_tree : (t : Table) (name : List ℕ) (Rule : Tree → Tree → Type 0) → IsSound old t
      → OnOk made (ChangesTree mid new name Rule) → OnOk result (ChangesTree old new name Rule)
  begun_tree t name Rule sound there =
      made_so (ChangesTree old new name Rule) made result is
      (on_ok made
      (changes_before old mid new name Rule (asked.trees.map.pages_stay sound.map.honest)
      asked.trees.records) there)

  module _ (t : Table) (c : Command) (grows : ¬ (after t c ≡ t)) where
    rose : (b : Broken) → made ≡ Err b → b.cause ≡ fault.Device → Rose old new
    rose b broke cause =
        risen_of (m.faults (device_of old.cache)) (m.faults (device_of new.cache)) b.cause
        (counted
        ∙ ap (λ (r : Result (Unit {0}) Broken). faults_behind (cause_in r) (m.faults (device_of old.cache)))
        broke) cause

    broke_off : (b : Broken) (touched : Bool) → (touched ≡ false → IsSound new t) → IsHonest new.cache
        → IsOfDevice b.cause → (b.cause ≡ fault.Device → Rose old new)
        → IsChanged old new t c
        (Err (cond touched (unmade.Broken b.cause) (unmade.Refused (as_refusal b.cause))))
    broke_off b true quiet honest cause risen =
        (honest, inr grows, (ends (Rose old new) b.cause cause risen).1)
    broke_off b false quiet honest cause risen = (quiet refl, inr (ends (Rose old new) b.cause cause risen).0)

    changed_by : (r : Result (Unit {0}) Broken) → made ≡ r → refusal_of t c ≡ None → Done ≡ answer_of t c
        → IsHonest new.cache → OnOk r (IsSound new (changed t c))
        → IfErr r (λ b. b.touched ≡ false → IsSound new t) → IfErr r (λ b. IsOfDevice b.cause)
        → IsChanged old new t c (change_of r)
    changed_by (Ok u) so none done honest sound quiet cause = (
      done ∙ sym (ap (λ (o : Option Refusal). refused_or o (answer_of t c)) none),
      subst (IsSound new) (sym (ap (λ (o : Option Refusal). kept_or o t (changed t c)) none)) sound,
    )
    changed_by (Err b) so none done honest sound quiet cause =
        broke_off b b.touched quiet honest cause (rose b so)

    open_where_begun : (b : Broken) (touched : Bool) → (touched ≡ true → gate_of new.cache ≡ Open)
        → IsBegun (Err (cond touched (unmade.Broken b.cause) (unmade.Refused (as_refusal b.cause))))
        → gate_of new.cache ≡ Open
    open_where_begun b true opened begun = opened refl
    open_where_begun b false opened begun = absurd begun

    opened_by : (r : Result (Unit {0}) Broken) → Begins mid.cache new.cache r → IsBegun (change_of r)
        → gate_of new.cache ≡ Open
    opened_by (Ok u) begins begun = begins.opened
    opened_by (Err b) begins begun = open_where_begun b b.touched begins.broke_open begun

    begun_leaves : OnlyNow old → IsSound old t → ChangeLeaves old new t c (change_of made)
    begun_leaves now sound =
        let honest = sound.map.honest in record {
          stops = λ ts rests. leaves_then m.moment m.left_since m.recovery (device_of old.cache)
              (device_of mid.cache) (device_of new.cache) (IsRefusedOrImageOf ts)
              (kept_run old.cache mid.cache ts honest (λ b left. now (device_of old.cache) b honest left)
              rests asked.gate)
              (begun.begins.stops ts (asked.gate.honest.0 honest)
              (kept_rests old.cache mid.cache ts honest asked.gate rests));
          rests = λ ts rests. begun.begins.rests ts (asked.gate.honest.0 honest)
              (kept_rests old.cache mid.cache ts honest asked.gate rests);
          opened = λ other. opened_by made begun.begins;
          quiet = λ same. absurd (grows same);
        }

    -- one that the table does not refuse is made, or broken off
    pub begun_change : OnlyNow old → IsSound old t → refusal_of t c ≡ None → Done ≡ answer_of t c
        → OnOk made (IsSound new (changed t c))
        → IfErr made (λ b. IsOfDevice b.cause) → IsChange old new t c result
    begun_change now sound none done there cause = subst (IsChange old new t c) (sym is) (record {
      changed =
          changed_by made refl none done (begun.begins.honest.0 (asked.gate.honest.0 sound.map.honest)) there
          (begun.untouched t (asked.sound t sound)) cause;
      leaves = begun_leaves now sound;
    })
