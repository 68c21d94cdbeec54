-- A store that is made begins with the empty table.
use Rattle.std.specs.FinMap.{empty}
use Rattle.std.proofs.Common.{◌⊎◌, inl, inr, refl}
use Rattle.live_layers.specs.Image.{IsImage}
use Rattle.page_file.specs.Opening.{IsRefused}
use Rattle.command_line.proofs.Starts.{has_served, refused_start}
use Rattle.command_line.proofs.serving.serve_new.Goals as goal

pub returns-in-Ok-clause-told : goal.returns-in-Ok-clause-told
returns-in-Ok-clause-told g c = λ lax. inl (c.run_store.ensures.told lax)

pub returns-in-Ok-clause-serves : goal.returns-in-Ok-clause-serves
returns-in-Ok-clause-serves g c = λ honest.
    let made = c.in-Ok.ensures in
    inr (has_served g.D.BlockDevice _ _ (λ b. IsRefused b ⊎ IsImage b empty) empty c.args.device c.in-Ok.store _ _ _
    made.newest (λ two. made.version honest) (made.made honest) (made.stops honest) made.no_fault
    c.run_store.ensures.runs)

pub returns-in-Err-clause-told : goal.returns-in-Err-clause-told
returns-in-Err-clause-told g c =
    λ lax. rw c.tell_no_store.ensures.status (inr (refl, c.in-Err.refusal, c.tell_no_store.ensures.told))

pub returns-in-Err-clause-serves : goal.returns-in-Err-clause-serves
returns-in-Err-clause-serves g c = λ honest.
    let told = c.tell_no_store.ensures in
    inl (refused_start g.D.BlockDevice (λ b. IsRefused b ⊎ IsImage b empty) c.args.device c.in-Err.device _ _ _
    (record { failed = told.status; unread = refl; unwritten = refl }) told.device
    (c.in-Err.ensures.refused_stops c.args.options.now.fit honest))
