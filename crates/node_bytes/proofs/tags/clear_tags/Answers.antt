-- Each tag is cleared after those before it.
use Rattle.std.proofs.Common.{◌≡◌, ◌∙◌, ap, arith, below_more, inl, refl, rules}
use Rattle.block_bytes.specs.Laws.{number_at-put, number_at-put_other}
use Rattle.block_bytes.specs.Numbers.{number_at}
use Rattle.node_bytes.specs.Layout.{tag_place}
use Rattle.node_bytes.proofs.TidyLemmas.{zeros_stay}
use Rattle.node_bytes.proofs.tags.clear_tags.Goals as goal

pub loop-place-init : goal.loop-place-init
loop-place-init g c =
    record {
      cleared = λ k lt. absurd (omega (arith, lt));
      size = search rules;
      others = λ n at within. refl;
      zeros = λ k none. none;
    }

pub loop-place-preserved : goal.loop-place-preserved
loop-place-preserved g c =
    let D = g.row.D in
    let old = c.loop-place.page in
    let place = c.loop-place.place in
    let inv = c.loop-place.invariant in
    let size = inv.size in
    record {
      cleared = below_more (λ k. number_at 4 (tag_place D k) c.write_u32.new.block ≡ 0) place
          (λ k lt. ap (number_at 4 (tag_place D k)) c.write_u32.ensures
          ∙ number_at-put_other 4 (tag_place D k) 4 (tag_place D place) 0 old (omega arith)
          (inl (omega arith)) ∙ inv.cleared k lt)
          (ap (number_at 4 (tag_place D place)) c.write_u32.ensures
          ∙ number_at-put 4 (tag_place D place) 0 old (omega arith) (omega arith));
      size = c.write_u32.array_long;
      others = λ n at before.
          ap (number_at n at) c.write_u32.ensures
          ∙ number_at-put_other n at 4 (tag_place D place) 0 old (omega arith) (inl (omega arith))
          ∙ inv.others n at before;
      zeros = λ k none.
          ap (number_at 1 k) c.write_u32.ensures
          ∙ zeros_stay (tag_place D place) k old (omega arith) (inv.zeros k none);
    }

pub returns-clause-cleared : goal.returns-clause-cleared
returns-clause-cleared g c =
    λ place lt. c.loop-place.invariant.cleared place (omega (arith, lt, c.loop-place-test.false))

pub returns-clause-others : goal.returns-clause-others
returns-clause-others g c = c.loop-place.invariant.others

pub returns-clause-zeros : goal.returns-clause-zeros
returns-clause-zeros g c = c.loop-place.invariant.zeros
