-- Calls of a store, one after another.
use Rattle.std.specs.Prelude.{List}
use Rattle.live_layers.specs.Image.{IsRefusedOrImageOf}
use Rattle.page_cache.specs.Cache.{IsHonest}
use Rattle.plain_table.specs.Step.{Answer}
use Rattle.layer_store.specs.Checked.{IsPassedCheck, LawfulReply, StepsBy}
use Rattle.store_law.specs.Sessions.{LawfulStep, Takes}
use Rattle.store_law.specs.States.{Request}
use Rattle.layer_store.specs.Commands.{StaysHonest}
use Rattle.layer_store.specs.Representation.{BeginsWithSome, IsAliveWithSome, IsSettled, Represents, StandsAs}
use Rattle.layer_store.specs.Representation.{StopsLeave, cache_in, device_in}
use Rattle.layer_store.specs.declared.store.Store.{Store}

-- A request was made of a store, whatever it was, and answered so.
pub record IsAsked {D A : Type 0} {m : _} (old : Store D A m) (r : Request) (a : Answer)
    (new : Store D A m) : Type 0 where
  -- by one lawful step of each state of a session that the store was in; a stop within it leaves blocks that
  -- opening refuses, or an image of one of the tables so far
  pub step : Takes Represents old new
      (λ s s'. LawfulStep s r a s' × StopsLeave old new (IsRefusedOrImageOf s'.stops.so_far))
  -- lawfully also where a stop may leave anything
  pub reply : Takes StandsAs old new (λ s s'. LawfulReply s r a s')
  pub honest : StaysHonest old new
  -- A check that was answered ok found the store alive with some table; and where it was settled, it begins
  -- with one.
  pub checked : IsPassedCheck r a → IsHonest (cache_in old)
      → IsAliveWithSome new × (IsSettled old → BeginsWithSome new (m.moment (device_in new)))

-- the requests were made of a store in turn, and answered so
abbrev pub Calls : {D A : Type 0} {m : _} → Store D A m → Store D A m → List Request → List Answer → Type 0
Calls old new requests answers = StepsBy IsAsked old requests answers new
