-- What calls in turn are is what a strict run is.
use Rattle.layer_store.specs.Representation.{device_in}
use Rattle.layer_store.proofs.CallLemmas.{calls_once_checked, calls_stay_honest}
use Rattle.command_shell.proofs.RunLemmas.{of_strict, strict_of_session, strict_served, strict_so}
use Rattle.command_shell.proofs.session.run_strictly.Goals as goal

pub returns-clause-session : goal.returns-clause-session
returns-clause-session g c = λ s represents.
    let lines = c.answer_lines in
    strict_of_session (λ store honest b left. g.met.D.BlockDevice.only_now (device_in store) b honest left)
    c.args.store.now lines.new.store lines.result
    (g.R.Read.remaining c.args.input.now) (g.R.Read.remaining lines.new.input)
    (g.W.Write.contents c.args.output.now) (g.W.Write.contents lines.new.output)
    (of_strict _ lines.result _ _ _ _ lines.ensures.runs) s represents

pub returns-clause-checked : goal.returns-clause-checked
returns-clause-checked g c = λ honest.
    let lines = c.answer_lines in
    strict_so _ _ (λ rs xs calls. calls_once_checked c.args.store.now lines.new.store rs xs honest calls)
    lines.result
    (g.R.Read.remaining c.args.input.now) (g.R.Read.remaining lines.new.input)
    (g.W.Write.contents c.args.output.now) (g.W.Write.contents lines.new.output)
    (of_strict _ lines.result _ _ _ _ lines.ensures.runs)

pub returns-clause-honest : goal.returns-clause-honest
returns-clause-honest g c = λ honest.
    let lines = c.answer_lines in
    strict_served _ _
    (λ rs xs calls. calls_stay_honest c.args.store.now lines.new.store rs xs calls honest)
    lines.result
    (g.R.Read.remaining c.args.input.now) (g.R.Read.remaining lines.new.input)
    (g.W.Write.contents c.args.output.now) (g.W.Write.contents lines.new.output)
    (of_strict _ lines.result _ _ _ _ lines.ensures.runs)
