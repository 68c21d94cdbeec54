-- What lies on a device once what was not committed is given up.
use Rattle.std.proofs.Common.{◌≡◌, ◌∙◌, ◌⊎◌, ℕ, List, true, false, Option, Some, None, Result, Ok, Err}
use Rattle.std.proofs.Common.{IfOk, IfErr, refl, sym, ap, subst}
use Rattle.std.proofs.Common.{inl, inr, ⊎_elim}
use Rattle.block_device.specs.Device.{BeginsOne, Blocks, Counts, LeavesOnly, Only, OrTaken, Recovery}
use Rattle.block_device.specs.declared.device.BlockDevice as device
use Rattle.block_device.specs.declared.device.DeviceError.{DeviceError}
use Rattle.block_device.specs.declared.device.DeviceError.TheVariants.{Failed, Memory}
use Rattle.live_layers.specs.Faults.{faults_after_refusal}
use Rattle.live_layers.specs.Image.{IsImage, IsImageOfOne}
use Rattle.live_layers.proofs.OneTable.{an_image_within_is_not_refused}
use Rattle.live_layers.proofs.RecoveryLemmas.{one_longer}
use Rattle.page_file.specs.declared.header.Version.{Version}
use Rattle.page_file.specs.declared.header.Version.TheVariants.{Two, Three}
use Rattle.plain_table.specs.Table.{Table}
use Rattle.plain_table.specs.declared.refusal.Refusal.{Refusal}
use Rattle.layer_store.specs.Faults.{IsMemoryOrDevice}
use Rattle.plain_table.specs.declared.refusal.Refusal.TheVariants as refusal
use Rattle.layer_store.specs.Representation.{BeginsWith, IsSettled, device_in, newest_in}
use Rattle.layer_store.specs.Starting.{OpeningRefusesAs, is_cache}
use Rattle.layer_store.specs.declared.store.Store.{Store}
use Rattle.plain_table.specs.Refusals.{refusal_number}
use Rattle.c_rows.specs.Numbers.{detail_of}
use Rattle.c_session.specs.RollingBack.{BringsBack, IsBack, IsLeftOf, RollsBackBy, device_of}
use Rattle.c_session.specs.declared.session.Session.{Session}
use Rattle.c_session.specs.declared.session.Opening.{Opening}

-- ---- what is committed

-- fewer commits bring back no other tables
pub brings_fewer : {D : Type 0} (recovery : Recovery D) (old new : D) (tables : List Table)
    → ((k : Blocks) → recovery.commits new k → recovery.commits old k) → BringsBack recovery old tables
    → BringsBack recovery new tables
brings_fewer recovery old new tables more brings c one = brings c (one.0, more one.0 one.1, one.2)

-- an image is all that is committed, and so it is after calls that only read
pub brings_read : {D : Type 0} (recovery : Recovery D) (old new : D) (blocks : Blocks)
    (outcomes : Blocks → Type 0) (tables : List Table) → Only blocks outcomes
    → ((k : Blocks) → recovery.commits old k → k ≡ blocks)
    → ((k : Blocks) → recovery.commits new k → OrTaken recovery old outcomes k) → IsImageOfOne tables blocks
    → BringsBack recovery new tables
brings_read recovery old new blocks outcomes tables only one more image c begins =
    let same : begins.0 ≡ blocks =
    ⊎_elim (λ was. one begins.0 was) (λ new. only begins.0 new.1) (more begins.0 begins.1) in
    one_longer tables c (begins.0, subst (IsImageOfOne tables) (sym same) image, begins.2)

-- an image is refused for want of memory, or by the device, where each version is opened
pub why_refused : (newest : Version) (tables : List Table) (blocks : Blocks) (r : Refusal) → newest ≡ Three
    → IsImageOfOne tables blocks → IsMemoryOrDevice r ⊎ OpeningRefusesAs newest blocks r → IsMemoryOrDevice r
why_refused newest tables blocks r each image (inl why) = why
why_refused newest tables blocks r each image (inr refused) =
    absurd (an_image_within_is_not_refused newest blocks image.0 refused.0 image.2
    (λ two. absurd (let apart : Three ≡ Two = sym each ∙ two in cc)) refused.2)

-- what a device failed by is counted as what is told of it
pub faults_by : (e : DeviceError) (r : Refusal) (before now : ℕ) → (e ≡ Failed → r ≡ refusal.Device)
    → (e ≡ Memory → r ≡ refusal.Memory) → Counts {T = Unit {0}} before now (Err e)
    → now ≡ faults_after_refusal r before
faults_by Failed r before now failed memory counts =
    counts.failed refl ∙ ap (λ (x : Refusal). faults_after_refusal x before) (sym (failed refl))
faults_by Memory r before now failed memory counts =
    counts.other (λ is. absurd (cc)) ∙ ap (λ (x : Refusal). faults_after_refusal x before) (sym (memory refl))

-- ---- what opening answers, over a device of which what was not committed was given up
module _ {D : Type 0} (m : device.Ghosts D) (old given : D) (opening : Opening)
    (honest : m.honest old → m.honest given)
    (begins : m.honest old → BeginsOne (m.recovery.commits old) (m.shown given))
    (counts : m.faults given ≡ m.faults old) where
  image_of : m.honest old → (tables : List Table) → BringsBack m.recovery old tables
      → IsImageOfOne tables (m.shown given)
  image_of h tables brings = brings (m.shown given) (begins h)

  pub opened_back : {A : Type 0} → (r : Result (Store D A m) (Refusal × D))
      → ((t : Table) → m.honest given → IsImage (m.shown given) t
      → IfOk r (λ store. BeginsWith store (m.moment (device_in store)) t)) → IfOk r IsSettled
      → IfOk r (λ store. newest_in store ≡ opening.newest)
      → IfOk r (λ store. m.faults (device_in store) ≡ m.faults given) → IfOk r (IsBack old opening)
  opened_back (Ok store) image settled newest faults = record {
    table = λ h tables brings.
        let is = image_of h tables brings in (is.0, is.1, image is.0 (honest h) is.2);
    settled = settled;
    newest = newest;
    faults = faults ∙ counts;
  }
  opened_back (Err e) image settled newest faults = tt

  pub opened_left : {A : Type 0} → (r : Result (Store D A m) (Refusal × D))
      → (m.honest old → Only (m.shown given) (m.may_leave given))
      → (m.honest old → (k : Blocks) → m.recovery.commits given k → k ≡ m.shown given)
      → (is_cache opening.cache ≡ true
      → IfErr r (λ e. m.honest given → IsMemoryOrDevice e.0 ⊎ OpeningRefusesAs opening.newest (m.shown given) e.0))
      → (is_cache opening.cache ≡ true
      → IfErr r (λ e. m.honest given
      → LeavesOnly m.moment m.left_since m.recovery given e.1 (m.may_leave given)))
      → IfErr r (λ e. m.honest given → m.honest e.1)
      → IfErr r (λ e. m.faults e.1 ≡ faults_after_refusal e.0 (m.faults given))
      → IfErr r (λ e. IsLeftOf m old opening e.0 e.1)
  opened_left (Ok store) only one refused stops still faults = tt
  opened_left (Err e) only one refused stops still faults = record {
    honest = λ h cache. still (honest h);
    table = λ h cache tables brings.
        brings_read m.recovery given e.1 (m.shown given) (m.may_leave given) tables (only h) (one h)
        (stops cache (honest h)).brings.commits (image_of h tables brings);
    why = λ h cache each tables brings.
        why_refused opening.newest tables (m.shown given) e.0 each (image_of h tables brings)
        (refused cache (honest h));
    faults = faults ∙ ap (faults_after_refusal e.0) counts;
  }

-- ---- the session

-- it has a store again
pub came_back : {D A : Type 0} {m : _} (old mid : Session D A m) (device : D) (t : Store D A m)
    (left : Option D) → old.read_only ≡ false → Some device ≡ device_of old.store old.left
    → mid ≡ record old { store = None; left = left } → IsBack device old.opening t
    → RollsBackBy old (record mid { store = Some t; left = None }) 0
came_back {D} {A} {m} old mid device t left writes is same back =
    inr (inr (
      device,
      writes,
      sym is,
      inl (
        t,
        back,
        ap (λ (s : Session D A m). record s { store = Some t; left = None }) same,
        refl,
      ),
    ))

-- or its device is left
pub was_left : {D A : Type 0} {m : _} (old mid : Session D A m) (device : D) (r : Refusal) (given : D)
    (left : Option D) (d n : ℕ) → old.read_only ≡ false → Some device ≡ device_of old.store old.left
    → mid ≡ record old { store = None; left = left } → IsLeftOf m device old.opening r given
    → d ≡ detail_of r → n ≡ refusal_number r
    → RollsBackBy old (record mid { left = Some given; detail = d }) n
was_left {D} {A} {m} old mid device r given left d n writes is same stays detail number =
    inr (inr (
      device,
      writes,
      sym is,
      inr (
        r,
        given,
        stays,
        ap (λ (s : Session D A m). record s { left = Some given; detail = d }) same
            ∙ ap (λ (x : ℕ). record old { store = None; left = Some given; detail = x }) detail,
        number,
      ),
    ))
