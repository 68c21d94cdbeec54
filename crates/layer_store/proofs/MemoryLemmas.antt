-- A command for which memory is wanting is a step of the store that stays as it is.
use Rattle.std.proofs.Common.{◌≡◌, Bool, true, false, cond, refl, inr, arith}
use Rattle.std.specs.Prelude.{Err}
use Rattle.live_layers.specs.Keeping.{Leaves}
use Rattle.live_layers.specs.declared.unmade.Unmade.TheVariants as unmade
use Rattle.live_layers.proofs.StopLemmas.{or_this}
use Rattle.page_cache.specs.declared.cache.PageCache.{PageCache}
use Rattle.plain_table.specs.Commands.{Command, MayGiveUp}
use Rattle.plain_table.specs.Commands.Command.{Create, Insert, Load, Move, Delete, Drop, Get, Count, Range}
use Rattle.plain_table.specs.Commands.Command.{Nearest, Join, Layers, Dump, Check, Reopen}
use Rattle.plain_table.specs.Step.{changes}
use Rattle.plain_table.specs.Step.Answer.{Refused}
use Rattle.plain_table.specs.Table.{Table}
use Rattle.plain_table.specs.declared.refusal.Refusal.TheVariants as refusal
use Rattle.store_law.specs.Stops.{Stops, after_command, tables_left, with_now}
use Rattle.store_law.specs.Stops.AfterStop.{Perhaps}
use Rattle.layer_store.specs.Commands.{TakesReply, TakesStep}
use Rattle.layer_store.specs.declared.store.Store.{Store}
use Rattle.layer_store.proofs.StopLemmas.{either_among, left_rests, found_more}
use Rattle.layer_store.proofs.StoreLemmas.{replies_change, takes_change}

module _ {D A : Type 0} {m : _} (cache : PageCache D A m) (t : Table) (stops : Stops)
    (was : Leaves cache stops) where
  -- what surely was left may be left
  of_change : (b : Bool) → Leaves cache (cond b (with_now (Perhaps (tables_left stops.now)) stops) stops)
  of_change true =
      record {
        now = left_rests cache stops.now was.now;
        begun = was.begun;
        so_far = was.so_far;
        among = was.among;
        kept_among = was.kept_among;
        kept_before = was.kept_before;
        found = was.found;
      }
  of_change false = was

  -- a stop leaves no more than it left
  wanting_leaves : (c : Command) → Leaves cache (after_command t stops c (Refused refusal.Memory))
  wanting_leaves Reopen = record {
    now = λ closed c same. or_this (tables_left stops.now) t c
        (left_rests cache stops.now was.now closed c same);
    begun = was.begun;
    so_far = λ c left. or_this stops.so_far t c (was.so_far c left);
    among = either_among t (tables_left stops.now) stops.so_far was.among;
    kept_among = either_among t (tables_left stops.now) stops.kept was.kept_among;
    kept_before = either_among t stops.kept stops.kept_so_far was.kept_before;
    found = λ opens. found_more cache t stops (was.found opens);
  }
  wanting_leaves (Create name dims fanout) = of_change (changes t (Create name dims fanout))
  wanting_leaves (Insert name id box tag) = of_change (changes t (Insert name id box tag))
  wanting_leaves (Load name objects) = of_change (changes t (Load name objects))
  wanting_leaves (Move name id box) = of_change (changes t (Move name id box))
  wanting_leaves (Delete name id) = of_change (changes t (Delete name id))
  wanting_leaves (Drop name) = of_change (changes t (Drop name))
  wanting_leaves (Get name id) = was
  wanting_leaves (Count name) = was
  wanting_leaves (Range name query tag) = was
  wanting_leaves (Nearest name k point) = was
  wanting_leaves (Join first second within) = was
  wanting_leaves Layers = was
  wanting_leaves Dump = was
  wanting_leaves Check = was

-- it is a lawful step
pub takes_want : {D A : Type 0} {m : _} (store : Store D A m) (c : Command) → store.failed ≡ false
    → MayGiveUp c → TakesStep store store c (Refused refusal.Memory)
takes_want store c going may =
    takes_change store store c (Err (unmade.Refused refusal.Memory)) (Refused refusal.Memory) going may refl
    going (λ t sound. (sound, inr tt))
    (λ t stops sound was. wanting_leaves store.layers.cache t stops was c) (λ t sound. omega arith)

-- and a lawful answer, whatever stops leave
pub replies_want : {D A : Type 0} {m : _} (store : Store D A m) (c : Command) → store.failed ≡ false
    → MayGiveUp c → TakesReply store store c (Refused refusal.Memory)
replies_want store c going may =
    replies_change store store c (Err (unmade.Refused refusal.Memory)) (Refused refusal.Memory) going may
    refl going (λ t sound. (sound, inr tt)) (λ t sound. omega arith)
