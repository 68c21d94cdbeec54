-- One slot more is chained.
use Rattle.std.proofs.Common.{◌≡◌, ◌∙◌, ◌+◌, ◌<◌, ℕ, List, ap, arith, length, replicate, refl, rules, set}
use Rattle.std.proofs.Common.{subst, sym, take}
use Rattle.std.specs.Prelude.{slice_index}
use Rattle.std.proofs.lemmas.List.{get_or_read}
use Rattle.committed_log.specs.Buckets.{AreChained, bucket_in}
use Rattle.committed_log.proofs.Chains.{chained_empty, chained_step}
use Rattle.committed_log.proofs.slots.calls.chain.Goals as goal

pub loop-k-init : goal.loop-k-init
loop-k-init g c =
    let long : c.args.heads.now.len ≡ length c.args.heads.now.items = search rules in (
      chained_empty c.clear.new.self.items c.args.heads.now.items c.clear.ensures.items
          (c.requires.empty ∙ ap (λ (n : ℕ). replicate n 0) long)
          (omega (arith, long, c.requires.few_buckets)),
      search rules,
      search rules,
      search rules,
      search rules,
    )

pub loop-k-preserved : goal.loop-k-preserved
loop-k-preserved g c =
    let homes = c.args.homes.now in let heads = c.loop-k.heads.items in
    let long : c.loop-k.heads.len ≡ length heads = search rules in
    let wide : c.len.result ≡ length heads = c.len.ensures ∙ long in
    let x : slice_index heads c.bucket-b.result ≡ c.index.result.now =
    sym (get_or_read heads c.bucket-b.result c.index.result.now
    (omega (arith, wide, c.bucket-b.ensures.within)) c.index.ensures 0) in
    let at : c.loop-k.k < length homes = search rules in (
      subst (λ (l : List ℕ). AreChained (take (c.loop-k.k + 1) homes) l
          (set heads c.bucket-b.result (c.loop-k.k + 1))) (sym c.push_reserved.ensures.items)
          (chained_step homes c.loop-k.before.items heads (slice_index homes c.loop-k.k) c.bucket-b.result
          c.loop-k.k (c.loop-k.k + 1) c.index.result.now c.loop-k.invariant.0 at refl
          (c.bucket-b.ensures.is ∙ ap (λ (w : ℕ). bucket_in w (slice_index homes c.loop-k.k)) wide)
          (omega (arith, wide, c.bucket-b.ensures.within)) refl c.requires.few (sym x)),
      search rules,
      search rules,
      search rules,
      search rules,
    )
