-- A run that made calls of its store in turn is a lawful session from each state that the store was in.
use Rattle.std.proofs.Common.{ℕ, List, Option, [], true, false, refl}
use Rattle.std.specs.Io.KnownBytes.{Keeps}
use Rattle.live_layers.specs.Image.{IsRefusedOrImageOf}
use Rattle.plain_table.specs.Step.{Answer}
use Rattle.store_law.specs.Sessions.{Reaches, SessionState}
use Rattle.store_law.specs.States.{Request}
use Rattle.layer_store.specs.Calls.{Calls}
use Rattle.layer_store.specs.Representation.{Represents, StopsLeave}
use Rattle.layer_store.specs.declared.store.Store.{Store}
use Rattle.layer_store.proofs.CallLemmas.{LeavesNow, calls_are_a_session}
use Rattle.command_shell.specs.Runs.{Runs, RunsBy}
use Rattle.command_shell.specs.Serving.{IsSession, of_any_text, run_state}
use Rattle.command_shell.specs.Strict.{AreTakenAt, IsStop, RunsAs, RunsStrictly}
use Rattle.command_shell.specs.declared.session.LinesEnd.{LinesEnd}
use Rattle.command_shell.specs.declared.session.LinesEnd.TheVariants.{Ran, Stopped}
use Rattle.command_shell.specs.declared.session.RunEnd.{RunEnd}
use Rattle.command_shell.proofs.SessionLemmas.{runs_kept, runs_so, runs_with, serves_kept, serves_so}
use Rattle.command_shell.proofs.SessionLemmas.{serves_with}

-- the state of the session after calls from this one
abbrev Ends : {D A : Type 0} {m : _} → Store D A m → Store D A m → Type 0
Ends old new = Reaches Represents new (λ s'. StopsLeave old new (IsRefusedOrImageOf s'.stops.so_far))

ends_session : {D A : Type 0} {m : _} → ((store : Store D A m) → LeavesNow store) → (old new : Store D A m)
    (s : SessionState) → Represents old s → (rs : List Request) (xs : List Answer) → Calls old new rs xs
    → (end : Ends old new) × IsSession s end.next rs xs
ends_session now old new s represents rs xs calls =
    let all = calls_are_a_session now old new rs xs calls s represents in
    (record { next = all.next; represents = all.represents; so = all.so.1 }, all.so.0)

pub run_of_session : {D A : Type 0} {m : _} → ((store : Store D A m) → LeavesNow store)
    → (old new : Store D A m) (end : RunEnd) (r r' w w' : Option (List ℕ))
    → RunsBy (Calls old new) end r r' w w'
    → (s : SessionState) → Represents old s
    → Reaches Represents new
    (λ s'. Runs end (run_state s r w) (run_state s' r' w')
    × StopsLeave old new (IsRefusedOrImageOf s'.stops.so_far))
run_of_session now old new end r r' w w' run s represents =
    let went = runs_with (of_any_text (Calls old new))
    (λ (reached : Ends old new). of_any_text (IsSession s reached.next)) end r r' w w' run
    (λ text rs xs calls. ends_session now old new s represents rs xs calls) in
    record { next = went.0.next; represents = went.0.represents; so = (went.1, went.0.so) }

-- a run that is not strict is one that stops at no line
pub of_lenient : (So : List Request → List Answer → Type 0) (end : RunEnd) (r r' w w' : Option (List ℕ))
    → RunsAs false So (Ran end) r r' w w' → RunsBy So end r r' w w'
of_lenient So end r r' w w' h = runs_so _ _ (λ text rs xs p. p.0) end r r' w w' h

-- and one that is strict is a strict run
pub of_strict : (So : List Request → List Answer → Type 0) (end : LinesEnd) (r r' w w' : Option (List ℕ))
    → RunsAs true So end r r' w w' → RunsStrictly So end r r' w w'
of_strict So (Ran end) r r' w w' h = runs_so _ _ (λ text rs xs p. (p.0, p.1 refl)) end r r' w w' h
of_strict So (Stopped it) r r' w w' (is, stops) = stops

-- what follows of the requests and the answers of a strict run
pub strict_so : (So Also : List Request → List Answer → Type 0)
    → ((rs : List Request) (as' : List Answer) → So rs as' → Also rs as')
    → (end : LinesEnd) (r r' w w' : Option (List ℕ)) → RunsStrictly So end r r' w w'
    → RunsStrictly Also end r r' w w'
strict_so So Also f (Ran end) r r' w w' h =
    runs_so _ _ (λ text rs xs p. (f rs xs p.0, p.1)) end r r' w w' h
strict_so So Also f (Stopped it) r r' w w' (ended, left, h) =
    (ended, left, serves_so _ _ (λ text rs xs p. (f rs xs p.0, p.1)) ended true r r' w w' [] left h)

-- one after which the writer was flushed
pub strict_kept : (So : List Request → List Answer → Type 0) (end : LinesEnd)
    (r r' w w' flushed : Option (List ℕ)) → RunsStrictly So end r r' w w' → Keeps w' flushed
    → RunsStrictly So end r r' w flushed
strict_kept So (Ran end) r r' w w' flushed h k = runs_kept _ end r r' w w' flushed h k
strict_kept So (Stopped it) r r' w w' flushed (ended, left, h) k =
    (ended, left, serves_kept _ ended true r r' w w' flushed [] left h k)

-- of one more fact of its requests and answers
strict_with : {X : Type 0} (So : List Request → List Answer → Type 0)
    (Also : X → List Request → List Answer → Type 0) (end : LinesEnd) (r r' w w' : Option (List ℕ))
    → RunsStrictly So end r r' w w'
    → ((rs : List Request) (as' : List Answer) → So rs as' → (x : X) × Also x rs as')
    → (x : X) × RunsStrictly (Also x) end r r' w w'
strict_with So Also (Ran end) r r' w w' h f =
    runs_with (λ text rs xs. So rs xs × AreTakenAt end xs)
    (λ x text rs xs. Also x rs xs × AreTakenAt end xs) end r r' w w' h
    (λ text rs xs p. let more = f rs xs p.0 in (more.0, (more.1, p.1)))
strict_with So Also (Stopped it) r r' w w' (ended, left, h) f =
    let more =
    serves_with (λ text rs xs. So rs xs × IsStop it text rs xs)
    (λ x text rs xs. Also x rs xs × IsStop it text rs xs) ended true r r' w w' [] left h
    (λ text rs xs p. let one = f rs xs p.0 in (one.0, (one.1, p.1))) in
    (more.0, (ended, left, more.1))

pub strict_of_session : {D A : Type 0} {m : _} → ((store : Store D A m) → LeavesNow store)
    → (old new : Store D A m) (end : LinesEnd) (r r' w w' : Option (List ℕ))
    → RunsStrictly (Calls old new) end r r' w w'
    → (s : SessionState) → Represents old s
    → Reaches Represents new
    (λ s'. RunsStrictly (IsSession s s') end r r' w w'
    × StopsLeave old new (IsRefusedOrImageOf s'.stops.so_far))
strict_of_session now old new end r r' w w' run s represents =
    let went = strict_with (Calls old new) (λ (reached : Ends old new). IsSession s reached.next) end r r' w
    w' run (λ rs xs calls. ends_session now old new s represents rs xs calls) in
    record { next = went.0.next; represents = went.0.represents; so = (went.1, went.0.so) }

-- the requests and answers of a strict run keep what each of them keeps
pub strict_served : (So : List Request → List Answer → Type 0) (P : Type 0)
    → ((rs : List Request) (as' : List Answer) → So rs as' → P)
    → (end : LinesEnd) (r r' w w' : Option (List ℕ)) → RunsStrictly So end r r' w w' → P
strict_served So P f end r r' w w' h =
    (strict_with So (λ (p : P) rs xs. So rs xs) end r r' w w' h (λ rs xs so. (f rs xs so, so))).0
