-- The goals of `load` that are proved by hand.
use Rattle.std.proofs.Common.{ap, refl}
use Rattle.layer_store.specs.Representation.{device_in}
use Rattle.layer_store.proofs.CallLemmas.{asked_badly}
use Rattle.command_language.specs.Lines.{lines_of}
use Rattle.command_language.specs.Pending.{pending}
use Rattle.command_shell.specs.declared.loading.Gathering.TheVariants.{Broken}
use Rattle.command_shell.proofs.LoadLemmas.{loads_broken, loads_full, loads_short}
use Rattle.command_shell.proofs.session.load.Goals as goal

pub returns-in-Full-clause-steps : goal.returns-in-Full-clause-steps
returns-in-Full-clause-steps g c = λ before unread first layer one front means gathered reads.
    let t = c.in-Full.ensures.gathers in
    loads_full _ before (g.R.Read.remaining c.args.input.now) (g.R.Read.remaining c.gather.new.input)
    (g.W.Write.contents c.args.output.now) (g.W.Write.contents c.gather.new.output)
    (g.W.Write.contents c.give-written.new.output)
    unread (pending c.args.lines.now) (pending c.gather.new.lines) first t.text layer c.args.gathered.announced
    c.saturating_add.result c.with_bad_entry-front.result c.in-Full.ended c.step_of.result
    c.give-written.result c.load_reply.result c.step_of.ensures c.saturating_add.ensures one
    (c.with_bad_entry-front.ensures first (lines_of t.text) front (t.gathers layer gathered).0) means reads
    t.reads t.count_is
    c.in-Full.ensures.kept c.give-written.ensures.written c.give-written.ensures.tells
    (_, c.load_reply.ensures layer (lines_of t.text) (t.gathers layer gathered), refl)

pub returns-in-Short-clause-steps : goal.returns-in-Short-clause-steps
returns-in-Short-clause-steps g c = λ before unread first layer one front means gathered reads.
    let t = c.in-Short.ensures.gathers in
    loads_short _ before (g.R.Read.remaining c.args.input.now) (g.R.Read.remaining c.gather.new.input)
    (g.W.Write.contents c.args.output.now) (g.W.Write.contents c.gather.new.output)
    (g.W.Write.contents c.give.new.output)
    unread (pending c.args.lines.now) (pending c.gather.new.lines) first t.text layer c.args.gathered.announced
    c.args.gathered.announced c.with_bad_entry-front-in-Short.result c.step_of-in-Short.result c.give.result
    c.bad_reply.result c.step_of-in-Short.ensures one
    (c.with_bad_entry-front-in-Short.ensures first (lines_of t.text) front (t.gathers layer gathered).0) means
    reads t.reads t.few c.in-Short.ensures.kept
    c.give.ensures.written c.give.ensures.tells (
      _,
      asked_badly c.args.store.now _
          (λ honest b left. g.met.D.BlockDevice.only_now (device_in c.args.store.now) b honest left)
          c.bad_reply.ensures,
      refl,
    )

pub returns-in-Broken-clause-steps : goal.returns-in-Broken-clause-steps
returns-in-Broken-clause-steps g c = λ before unread first layer one front means gathered reads.
    loads_broken _ refl before (g.R.Read.remaining c.args.input.now) (g.R.Read.remaining c.gather.new.input)
    (g.W.Write.contents c.args.output.now) (g.W.Write.contents c.gather.new.output)
    unread (pending c.args.lines.now) (pending c.gather.new.lines) first layer c.args.gathered.announced
    c.in-Broken.end
    (λ e. c.in-Broken.ensures.going (ap Broken e)) one means reads c.in-Broken.ensures.gathers
    c.in-Broken.ensures.kept
