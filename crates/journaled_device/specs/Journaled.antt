-- A journaled device as its contracts see it: a plain disk after the same writes and syncs, and beside that
-- what a stop really brings back.
use Rattle.std.specs.Prelude.{◌≡◌, ◌+◌, ◌-◌, ℕ, Bool, List, length, None, Result, OnOk, OnErr}
use Rattle.block_device.specs.Device.{Blocks, Brings, Elapses, Follows, LeavesNoMore, Only, Recovery, Torn}
use Rattle.block_device.specs.Device.{written}
use Rattle.block_device.specs.History.{Event, LeftSince, MayLeave}
use Rattle.block_device.specs.declared.device.DeviceError.{DeviceError}
use Rattle.page_file.specs.Opening.{failed_check}
use Rattle.journaled_device.specs.Events.{events, events_until, moments}
use Rattle.logged_pair.specs.Standing.{commits_of, shown_of}
use Rattle.logged_pair.specs.Standing as logged
use Rattle.logged_pair.specs.declared.pair.LoggedPair.{LoggedPair}
use Rattle.journaled_device.specs.declared.device.JournaledDevice.{JournaledDevice}

-- its base with the log of its commits, and the pair of both
abbrev pub inner_of : {P A G : Type 0} {m : _} → JournaledDevice P A G m → LoggedPair P A m
inner_of d = d.pair

abbrev pub pair_of : {P A G : Type 0} {m : _} → JournaledDevice P A G m → P
pair_of d = logged.pair_of d.pair

-- whether each commit is copied home
abbrev pub each_home_of : {P A G : Type 0} {m : _} → JournaledDevice P A G m → Bool
each_home_of d = d.each_home

-- who knows whether others read them
abbrev pub readers_of : {P A G : Type 0} {m : _} → JournaledDevice P A G m → G
readers_of d = d.readers

-- its writes and syncs, the newest first
abbrev pub events_of : {P A G : Type 0} {m : _} → JournaledDevice P A G m → List Event
events_of d = events d.past.taken

-- what a stop now would leave of a plain disk
abbrev pub may_leave_of : {P A G : Type 0} {m : _} → JournaledDevice P A G m → Blocks → Type 0
may_leave_of d c = MayLeave (shown_of (inner_of d)) (events_of d) c

-- the moment: one more than the pair's with each event
abbrev pub moment_of : {P A G : Type 0} {m : _} → JournaledDevice P A G m → ℕ
moment_of {m = m} d = m.moment (pair_of d) + length (moments d.past.taken)

-- what a stop since a moment would have left of a plain disk
abbrev pub left_since_of : {P A G : Type 0} {m : _} → JournaledDevice P A G m → ℕ → Blocks → Type 0
left_since_of d t c =
    LeftSince (shown_of (inner_of d)) (events_of d) (events_until (moments d.past.taken) t) c

-- the moment of the pair at one of the device
abbrev pub pair_moment_of : {P A G : Type 0} {m : _} → JournaledDevice P A G m → ℕ → ℕ
pair_moment_of d t = t - events_until (moments d.past.taken) t

-- what stops since a moment left, once it is recovered
abbrev pub found_since_of : {P A G : Type 0} {m : _} → JournaledDevice P A G m → ℕ → Blocks → Type 0
found_since_of d t c = logged.left_since_of (inner_of d) (pair_moment_of d t) c

-- What a stop really brings back: one of the commits of the pair. Each is of blocks that opening takes.
abbrev pub recovery_of : {P A G : Type 0} {m : _} → Recovery (JournaledDevice P A G m)
recovery_of =
    record {
      commits = λ d k. commits_of (inner_of d) k;
      found_since = λ d t c. found_since_of d t c;
      takes = λ k. failed_check k ≡ None;
    }

-- block i was written, or the write was refused
pub record HasWritten {P A G : Type 0} {m : _} (i : ℕ) (bytes : List ℕ) (old : JournaledDevice P A G m)
    (result : Result (Unit {0}) DeviceError) (new : JournaledDevice P A G m) : Type 0 where
  pub done : OnOk result (shown_of (inner_of new) ≡ written i bytes (shown_of (inner_of old)))
  pub torn : OnErr result (Torn i (shown_of (inner_of old)) (shown_of (inner_of new)))
  pub stops : Follows (Torn i) (may_leave_of old) (may_leave_of new)
  pub time : Elapses (moment_of old) (moment_of new) (left_since_of old) (left_since_of new)
      (may_leave_of new)
  pub brings : Brings moment_of recovery_of old new (may_leave_of new)

-- a sync was done, or was refused
pub record HasSynced {P A G : Type 0} {m : _} (old : JournaledDevice P A G m)
    (result : Result (Unit {0}) DeviceError) (new : JournaledDevice P A G m) : Type 0 where
  pub durable : OnOk result (Only (shown_of (inner_of old)) (may_leave_of new))
  pub shown : shown_of (inner_of new) ≡ shown_of (inner_of old)
  pub stops : LeavesNoMore (may_leave_of old) (may_leave_of new)
  pub time : Elapses (moment_of old) (moment_of new) (left_since_of old) (left_since_of new)
      (may_leave_of new)
  pub brings : Brings moment_of recovery_of old new (may_leave_of new)
