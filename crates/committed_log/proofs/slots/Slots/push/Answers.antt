-- One slot more is chained.
use Rattle.std.proofs.Common.{◌≡◌, ◌∙◌, ◌++◌, ◌∷◌, [], ℕ, List, ap, arith, length, rules, set, subst, sym}
use Rattle.std.specs.Prelude.{slice_index}
use Rattle.std.proofs.lemmas.List.{get_or_read}
use Rattle.committed_log.specs.Buckets.{AreChained, bucket_in}
use Rattle.committed_log.proofs.Chains.{chained_more}
use Rattle.committed_log.proofs.slots.Slots.push.Goals as goal

pub invariant_of-self : goal.invariant_of-self
invariant_of-self g c =
    let s = c.args.self.now in let heads = s.heads.items in
    let long : s.heads.len ≡ length heads = search rules in
    let many : s.homes.len ≡ length s.homes.items = search rules in
    let wide : c.len.result ≡ length heads = c.len.ensures ∙ long in
    let x : slice_index heads c.bucket-b.result ≡ c.index.result.now =
    sym (get_or_read heads c.bucket-b.result c.index.result.now
    (omega (arith, wide, c.bucket-b.ensures.within)) c.index.ensures 0) in
    record {
      chained =
          subst (λ (l : List ℕ). AreChained l c.push_reserved.new.self.items
          (set heads c.bucket-b.result c.len-2.result)) (sym c.push_reserved-2.ensures.items)
          (subst (λ (l : List ℕ). AreChained (s.homes.items ++ c.args.i ∷ []) l
          (set heads c.bucket-b.result c.len-2.result)) (sym c.push_reserved.ensures.items)
          (chained_more s.homes.items s.before.items heads c.args.i c.bucket-b.result c.len-2.result
          c.index.result.now s.chained (c.bucket-b.ensures.is ∙ ap (λ (w : ℕ). bucket_in w c.args.i) wide)
          (omega (arith, wide, c.bucket-b.ensures.within))
          (omega (arith, c.len-2.ensures, c.push_reserved-2.ensures.len, many))
          (omega (arith, c.len-2.ensures, c.push_reserved-2.ensures.len, c.requires.few)) (sym x)));
    }
