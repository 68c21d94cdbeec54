-- What calls in turn are is what a run is.
use Rattle.layer_store.specs.Representation.{device_in}
use Rattle.layer_store.proofs.CallLemmas.{calls_once_checked, calls_stay_honest}
use Rattle.command_shell.proofs.RunLemmas.{of_lenient, run_of_session}
use Rattle.command_shell.proofs.SessionLemmas.{runs_so, served_by}
use Rattle.command_shell.proofs.session.run.Goals as goal

pub returns-clause-session : goal.returns-clause-session
returns-clause-session g c = λ s represents.
    let lines = c.answer_lines in
    run_of_session (λ store honest b left. g.met.D.BlockDevice.only_now (device_in store) b honest left)
    c.args.store.now lines.new.store c.in-Ran.end
    (g.R.Read.remaining c.args.input.now) (g.R.Read.remaining lines.new.input)
    (g.W.Write.contents c.args.output.now) (g.W.Write.contents lines.new.output)
    (of_lenient _ c.in-Ran.end _ _ _ _ c.in-Ran.ensures.runs) s represents

pub returns-clause-checked : goal.returns-clause-checked
returns-clause-checked g c = λ honest.
    let lines = c.answer_lines in
    runs_so _ _
    (λ text rs xs calls. calls_once_checked c.args.store.now lines.new.store rs xs honest calls)
    c.in-Ran.end
    (g.R.Read.remaining c.args.input.now) (g.R.Read.remaining lines.new.input)
    (g.W.Write.contents c.args.output.now) (g.W.Write.contents lines.new.output)
    (of_lenient _ c.in-Ran.end _ _ _ _ c.in-Ran.ensures.runs)

pub returns-clause-honest : goal.returns-clause-honest
returns-clause-honest g c = λ honest.
    let lines = c.answer_lines in
    let calls = served_by _ c.in-Ran.end
    (g.R.Read.remaining c.args.input.now) (g.R.Read.remaining lines.new.input)
    (g.W.Write.contents c.args.output.now) (g.W.Write.contents lines.new.output)
    (of_lenient _ c.in-Ran.end _ _ _ _ c.in-Ran.ensures.runs) in
    calls_stay_honest c.args.store.now lines.new.store calls.requests calls.answers calls.lawful honest
