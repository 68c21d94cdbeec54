use Rattle.std.proofs.Common.{refl, subst, sym, take, ◌+◌}
use Rattle.c_session.specs.Parts.{GetsAll}
use Rattle.c_session.proofs.GettingLemmas.{get_refused, got_next, no_memory}
use Rattle.c_session.proofs.session.parts.get_each.Goals as goal

pub returns-in_err-bounds : goal.returns-in_err-bounds
returns-in_err-bounds g c =
    get_refused c.args.store.now c.loop-k.store c.get.new.self c.args.layer.now c.args.near.now c.loop-k.k _
    c.loop-k.objects.items c.in_err-bounds.field-0.0 c.from_residual.result c.loop-k-test.true
    c.from_residual.ensures.1 c.loop-k.invariant.done c.in_err-bounds.ensures.answers

pub returns-in_err-push : goal.returns-in_err-push
returns-in_err-push g c =
    no_memory c.args.store.now c.get.new.self c.args.layer.now c.args.near.now (c.loop-k.k + 1) _
    c.from_residual-in_err-push.result c.from_residual-in_err-push.ensures.1
    (got_next c.args.store.now c.loop-k.store c.get.new.self c.args.layer.now c.args.near.now c.loop-k.k _
    c.loop-k.objects.items (_, c.in_ok-bounds.bounds, c.in_ok-bounds.tag) c.loop-k-test.true
    c.loop-k.invariant.done refl c.in_ok-bounds.ensures.answers)

pub loop-k-preserved : goal.loop-k-preserved
loop-k-preserved g c = record {
  done =
      subst (λ objects. GetsAll c.args.store.now c.get.new.self c.args.layer.now
      (take (c.loop-k.k + 1) c.args.near.now) objects) (sym c.in_ok-push.ensures.items)
      (got_next c.args.store.now c.loop-k.store c.get.new.self c.args.layer.now c.args.near.now c.loop-k.k _
      c.loop-k.objects.items (_, c.in_ok-bounds.bounds, c.in_ok-bounds.tag) c.loop-k-test.true
      c.loop-k.invariant.done refl c.in_ok-bounds.ensures.answers);
}
