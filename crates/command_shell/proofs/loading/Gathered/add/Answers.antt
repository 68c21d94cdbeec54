-- The goals of `Gathered::add` that are proved by hand.
use Rattle.std.proofs.Common.{◌∙◌, false, sym}
use Rattle.std.specs.Prelude.{is_none}
use Rattle.command_shell.proofs.GatherLemmas.{gathered_more, good_follows, of_ok, spoiled}
use Rattle.command_shell.proofs.loading.Gathered.add.Goals as goal

pub returns-in-None : goal.returns-in-None
returns-in-None g c = λ layer lines h at.
    let new = c.spoil.new.self in
    spoiled c.args.self.now.bad_entry new.bad_entry c.args.place new.room new.layer.items layer
    new.objects.items lines c.args.line.now c.spoil.ensures h.0 at (sym c.parse_entry.ensures ∙ c.in-None.is)

pub returns-then-is_err : goal.returns-then-is_err
returns-then-is_err g c = λ layer lines h at. (
  h.0 ∙ sym (good_follows lines c.args.line.now c.in-Some.object (sym c.parse_entry.ensures ∙ c.in-Some.is)),
  gathered_more (is_none c.args.self.now.bad_entry) c.args.self.now.room false c.args.self.now.layer.items
      layer c.args.self.now.objects.items _ lines c.args.line.now c.in-Some.object h.1
      (sym c.parse_entry.ensures ∙ c.in-Some.is) (λ e. absurd (cc)) (λ e. absurd (cc)),
)

pub returns-else-is_err : goal.returns-else-is_err
returns-else-is_err g c = λ layer lines h at. (
  h.0 ∙ sym (good_follows lines c.args.line.now c.in-Some.object (sym c.parse_entry.ensures ∙ c.in-Some.is)),
  gathered_more (is_none c.args.self.now.bad_entry) c.args.self.now.room c.args.self.now.room
      c.args.self.now.layer.items layer c.args.self.now.objects.items _ lines c.args.line.now
      c.in-Some.object h.1 (sym c.parse_entry.ensures ∙ c.in-Some.is) (λ e. e)
      (λ e. of_ok c.push.result _ _ _ c.push.ensures.items c.if-is_err.ensures.value),
)
