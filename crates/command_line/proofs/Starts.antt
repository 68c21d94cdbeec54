-- A store that was made or opened and run over, or was refused.
use Rattle.std.proofs.Common.{◌≡◌, ◌∙◌, ◌⊎◌, ap, ℕ, Bool, Result, Ok, Err, inl, inr, refl, sym, subst, arith}
use Rattle.block_device.specs.Device.{Blocks, LeavesOnly}
use Rattle.block_device.specs.Moments.{leaves_then, leaves_weaker}
use Rattle.block_device.specs.declared.device.BlockDevice as device
use Rattle.layer_store.specs.Representation.{BeginsWith, Represents, device_in, file_version, newest_in}
use Rattle.layer_store.specs.declared.store.Store.{Store}
use Rattle.layer_store.proofs.StopLemmas.{session_state_is}
use Rattle.live_layers.specs.Image.{IsRefusedOrImageOf}
use Rattle.page_file.specs.Layout.{IsWithin}
use Rattle.page_file.specs.declared.header.Version.{Version}
use Rattle.plain_table.specs.Table.{Table}
use Rattle.store_law.specs.Sessions.{SessionState}
use Rattle.store_law.specs.Stops.{Stops}
use Rattle.command_shell.specs.Runs.{LeavesTablesOf, with_last}
use Rattle.command_line.specs.Running.{HasAnswered, HasServed, Runs, RunsOver}
use Rattle.command_line.specs.Serving.{HasNotBegun, HasStarted, IsRefusedOpening, IsRefusedStart}
use Rattle.command_line.specs.Streams.{Streams}
use Rattle.command_line.specs.declared.serving.Served.{Served}
use Rattle.command_line.proofs.RunLemmas.{answers_of, counted_of}

-- one or the other
pub start : {S E : Type 0} (r : Result S E) (G : Type 0) → ((v : S) → r ≡ Ok v → G)
    → ((e : E) → r ≡ Err e → G) → G
start (Ok v) G made refused = made v refl
start (Err e) G made refused = refused e refl

-- what a refused start says of its device is said of what is left
pub refused_start : {D R W : Type 0} (m : device.Ghosts D) (P : Blocks → Type 0) (device d : D)
    (before after : Streams R W) (left : Served D) → HasNotBegun before after left.status → left.device ≡ d
    → LeavesOnly m.moment m.left_since m.recovery device d P → IsRefusedStart m P device before after left
refused_start m P device d before after left begun same stops = record {
  begun = begun;
  stops = subst (λ x. LeavesOnly m.moment m.left_since m.recovery device x P) (sym same) stops;
}

pub refused_opening : {D R W : Type 0} (m : device.Ghosts D) (device d : D) (before after : Streams R W)
    (left : Served D) → HasNotBegun before after left.status → left.device ≡ d
    → LeavesOnly m.moment m.left_since m.recovery device d (m.may_leave device) → m.shown d ≡ m.shown device
    → IsRefusedOpening m device before after left
refused_opening m device d before after left begun same stops blocks =
    (refused_start m (m.may_leave device) device d before after left begun same stops, ap m.shown same ∙ blocks)

-- a stop in the start leaves what has P, and one since then an image of one of the session's tables, or
-- refused blocks
whole_run : {D : Type 0} (m : device.Ghosts D) (device opened left : D) (s : SessionState) (P : Blocks → Type 0)
    → LeavesOnly m.moment m.left_since m.recovery device opened P
    → LeavesTablesOf m.moment m.left_since m.recovery s opened left
    → LeavesOnly m.moment m.left_since m.recovery device left
    (λ c. P c ⊎ IsRefusedOrImageOf (with_last s.state s.stops.so_far) c)
whole_run m device opened left s P opening since =
    let Tables : Blocks → Type 0 = IsRefusedOrImageOf (with_last s.state s.stops.so_far) in
    let Either : Blocks → Type 0 = λ c. P c ⊎ Tables c in
    leaves_then m.moment m.left_since m.recovery device opened left Either
    (leaves_weaker m.moment m.left_since m.recovery device opened P Either (λ c p. inl p) opening)
    (leaves_weaker m.moment m.left_since m.recovery opened left Tables Either (λ c q. inr q) since)

-- a store that begins with a table, and may raise its file to this version
pub has_started : {D A : Type 0} {m : device.Ghosts D} (newest : Version) (store : Store D A m) (t : Table)
    → newest_in store ≡ newest → IsWithin newest (file_version store)
    → BeginsWith store (m.moment (device_in store)) t → HasStarted A m newest (device_in store) t
has_started newest store t is within begins =
    record { store = store; lies = refl; begins = begins; newest_is = is; within = within }

-- it was run over
pub has_served : {D A R W : Type 0} (m : device.Ghosts D) (strict : Bool) (newest : Version) (P : Blocks → Type 0)
    (t : Table) (device : D) (store : Store D A m) (before after : Streams R W) (left : Served D)
    → newest_in store ≡ newest → IsWithin newest (file_version store)
    → BeginsWith store (m.moment (device_in store)) t
    → LeavesOnly m.moment m.left_since m.recovery device (device_in store) P
    → m.faults (device_in store) ≡ m.faults device
    → RunsOver strict m (λ s. Represents store s) (device_in store) before after left
    → HasServed strict m (HasStarted A m newest) P t device before after left
has_served m strict newest P t device store before after left is within begins opening faults over =
    let old = begins.next in
    let run = over.runs old begins.represents in
    let since : old.stops.since ≡ m.moment (device_in store) = ap (λ (x : Stops). x.since) begins.so.1 in
    record {
      opened = device_in store;
      store = has_started newest store t is within begins;
      opening = opening;
      old = old;
      new = run.0;
      begins = begins.so.0;
      stops = begins.so.1;
      counted = (session_state_is store old begins.represents).faults ∙ faults;
      runs = subst (λ (k : ℕ). Runs strict m k old run.0 before after left) since run.1;
      since = run.2;
      whole = whole_run m device (device_in store) left.device run.0 P opening run.2;
    }

-- a start that was refused has not begun, and a run over a device without faults answers
pub begun_or_answered : {D R W : Type 0} (strict : Bool) (m : device.Ghosts D) (S : D → Table → Type 0)
    (P Q : Blocks → Type 0) (t : Table) (device : D) (before after : Streams R W) (left : Served D)
    → IsRefusedStart m P device before after left ⊎ HasServed strict m S Q t device before after left
    → m.faults left.device ≡ 0
    → HasNotBegun before after left.status
    ⊎ ((d : D) × S d t × HasAnswered strict t before after left.status)
begun_or_answered strict m S P Q t device before after left (inl refused) none = inl refused.begun
begun_or_answered strict m S P Q t device before after left (inr h) none =
    let counted = counted_of strict m (m.moment h.opened) h.old h.new before after left h.runs in
    inr (
      h.opened,
      h.store,
      record {
        from = record {
          old = h.old;
          new = h.new;
          begins = h.begins;
          answers = answers_of strict m (m.moment h.opened) h.old h.new before after left h.runs;
        };
        faultless = omega (arith, counted, none);
      },
    )
