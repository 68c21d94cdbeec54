-- The journal is written anew, and the mark is written again.
use Rattle.std.proofs.Common.{◌≡◌, ◌∙◌, ap, subst, sym}
use Rattle.block_device.specs.Device.{Blocks}
use Rattle.committed_log.specs.Log.{recovered}
use Rattle.journaled_file.specs.Judged.{IsJudged}
use Rattle.journaled_file.specs.Paired.{IsMarkedAnew}
use Rattle.journaled_file.specs.declared.judging.Found.TheVariants.{Own}
use Rattle.marked_pair.specs.Mark.{unmarked}
use Rattle.marked_pair.specs.MarkLaws.{length-unmarked}
use Rattle.titled_pair.specs.Title.{untitled}
use Rattle.journaled_file.proofs.pairing.rewritten.Goals as goal

pub returns-clause-own : goal.returns-clause-own
returns-clause-own g c = λ h source own.
    let base = g.B.BlockDevice.shown in let journal = g.J.BlockDevice.shown in
    let was = c.args.pair in let copy = c.in_ok-pair.pair in let new = c.renew_mark.new.pair in
    let made = c.in_ok-make_copy.ensures.honest source in
    let done = c.in_ok-pair.ensures in let again = c.in_ok-renew_mark.ensures in
    let h2 = done.honest h made in
    let same : base copy.base ≡ base was.base = done.base h made in
    let own_copy : IsJudged Own (base copy.base) (journal copy.journal) =
    subst (λ (a : Blocks). IsJudged Own a (journal copy.journal)) (sym same) (done.own h made (base was.base) own) in
    record {
      shown = again.shown h2 ∙ ap unmarked same;
      own = again.own h2 own_copy;
      sure =
          subst (λ (a : Blocks). IsMarkedAnew a (base new.base) (journal new.journal)) same (again.sure h2);
    }

pub returns-clause-read : goal.returns-clause-read
returns-clause-read g c = λ h source.
    let base = g.B.BlockDevice.shown in let journal = g.J.BlockDevice.shown in
    let was = c.args.pair in let copy = c.in_ok-pair.pair in let new = c.renew_mark.new.pair in
    let made = c.in_ok-make_copy.ensures.honest source in
    let done = c.in_ok-pair.ensures in let again = c.in_ok-renew_mark.ensures in
    let h2 = done.honest h made in
    ap (λ (a : Blocks). recovered a (untitled (journal new.journal)))
    (again.shown h2 ∙ ap unmarked (done.base h made))
    ∙ ap (λ (e : Blocks). recovered (unmarked (base was.base)) (untitled e)) (again.journal h2)
    ∙ done.read h made (unmarked (base was.base)) (length-unmarked (base was.base))
