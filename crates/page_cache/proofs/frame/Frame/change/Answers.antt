-- The goals of `Frame::change` that are proved by hand.
use Rattle.std.proofs.Common.{◌≡◌, ◌<◌, refl, subst, sym, true}
use Rattle.node_bytes.specs.Layout.{node_test}
use Rattle.page_cache.proofs.frame.Frame.change.Goals as goal

pub invariant_of-self : goal.invariant_of-self
invariant_of-self g c = record {
  spelled = λ some. c.requires.stays some _ _ _ (record {
    shown = _;
    shows = c.deref_mut.ensures.value;
    left = _;
    met = c.change-answer.ensures;
    leaves = refl;
  }) (subst (λ n. node_test n c.args.self.now.bytes.value ≡ true) c.if-known.true
      (c.args.self.now.spelled (subst (λ n. 0 < n) (sym c.if-known.true) some)));
}
