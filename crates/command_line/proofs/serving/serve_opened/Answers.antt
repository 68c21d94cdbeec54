-- A store that is opened begins with the table of the image, and one that is not leaves the device as it was.
use Rattle.std.proofs.Common.{inl, inr, refl}
use Rattle.command_line.proofs.Starts.{has_served, refused_opening}
use Rattle.command_line.proofs.serving.serve_opened.Goals as goal

pub returns-in-Ok-clause-told : goal.returns-in-Ok-clause-told
returns-in-Ok-clause-told g c = λ lax. inl (c.run_store.ensures.told lax)

pub returns-in-Ok-clause-serves : goal.returns-in-Ok-clause-serves
returns-in-Ok-clause-serves g c = λ t honest image.
    let opened = c.in-Ok.ensures in
    let m = g.D.BlockDevice in
    inr (has_served m _ _ (m.may_leave c.args.device) t c.args.device c.in-Ok.store _ _ _ opened.newest
    (opened.within honest) (opened.image t honest image) (opened.stops honest) opened.no_fault
    c.run_store.ensures.runs)

pub returns-in-Ok-clause-checked : goal.returns-in-Ok-clause-checked
returns-in-Ok-clause-checked g c = λ honest. inr (c.run_store.ensures.runs.checked (c.in-Ok.ensures.honest honest))

pub returns-in-Ok-clause-refuses : goal.returns-in-Ok-clause-refuses
returns-in-Ok-clause-refuses g c = λ f honest refuses. absurd (c.in-Ok.ensures.opened honest f refuses)

pub returns-in-Err-clause-told : goal.returns-in-Err-clause-told
returns-in-Err-clause-told g c =
    λ lax. rw c.tell_no_store.ensures.status (inr (refl, c.in-Err.refusal, c.tell_no_store.ensures.told))

pub returns-in-Err-clause-serves : goal.returns-in-Err-clause-serves
returns-in-Err-clause-serves g c = λ t honest image.
    let told = c.tell_no_store.ensures in
    inl (refused_opening g.D.BlockDevice c.args.device c.in-Err.device _ _ _
    (record { failed = told.status; unread = refl; unwritten = refl }) told.device
    (c.in-Err.ensures.refused_stops c.args.options.now.fit honest) (c.in-Err.ensures.refused_blocks honest))

pub returns-in-Err-clause-checked : goal.returns-in-Err-clause-checked
returns-in-Err-clause-checked g c = λ honest.
    let told = c.tell_no_store.ensures in
    inl (refused_opening g.D.BlockDevice c.args.device c.in-Err.device _ _ _
    (record { failed = told.status; unread = refl; unwritten = refl }) told.device
    (c.in-Err.ensures.refused_stops c.args.options.now.fit honest) (c.in-Err.ensures.refused_blocks honest))

pub returns-in-Err-clause-refuses : goal.returns-in-Err-clause-refuses
returns-in-Err-clause-refuses g c = λ f honest refuses.
    let told = c.tell_no_store.ensures in
    refused_opening g.D.BlockDevice c.args.device c.in-Err.device _ _ _
    (record { failed = told.status; unread = refl; unwritten = refl }) told.device
    (c.in-Err.ensures.refused_stops c.args.options.now.fit honest) (c.in-Err.ensures.refused_blocks honest)
