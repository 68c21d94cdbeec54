-- The first step of a chain, and the next one.
use Rattle.std.proofs.Common.{◌≡◌, ◌∙◌, ◌-◌, ◌<◌, ℕ, ap, arith, length, rules}
use Rattle.std.specs.Prelude.{slice_index}
use Rattle.std.proofs.lemmas.List.{get_or_read}
use Rattle.committed_log.specs.Buckets.{bucket_in}
use Rattle.committed_log.proofs.Chains.{before_less, sought_first, sought_next}
use Rattle.committed_log.proofs.slots.Slots.slot_of.Goals as goal

pub loop-next-init : goal.loop-next-init
loop-next-init g c =
    let s = c.args.self.now in let heads = s.heads.items in
    let long : s.heads.len ≡ length heads = search rules in
    let wide : c.len.result ≡ length heads = c.len.ensures ∙ long in
    let lt : c.bucket.result < length heads = omega (arith, wide, c.bucket.ensures.within) in
    sought_first s.homes.items s.before.items heads c.args.i c.bucket.result c.index-next.result.now
    s.chained (c.bucket.ensures.is ∙ ap (λ (w : ℕ). bucket_in w c.args.i) wide) lt
    (get_or_read heads c.bucket.result c.index-next.result.now lt c.index-next.ensures 0)

pub loop-next-smaller : goal.loop-next-smaller
loop-next-smaller g c =
    let s = c.args.self.now in let slot = c.loop-next.next - 1 in
    let there : slot < length s.before.items =
    omega (arith, c.loop-next-test.true, c.loop-next.invariant.within, s.chained.as_many) in
    omega (
      arith,
      c.loop-next-test.true,
      before_less s.homes.items s.before.items s.heads.items slot c.index-next-in-loop-next.result.now
          s.chained (omega (arith, there, s.chained.as_many))
          (get_or_read s.before.items slot c.index-next-in-loop-next.result.now there
          c.index-next-in-loop-next.ensures 0),
    )

pub loop-next-preserved : goal.loop-next-preserved
loop-next-preserved g c =
    let s = c.args.self.now in let slot = c.loop-next.next - 1 in
    let there : slot < length s.homes.items =
    omega (arith, c.loop-next-test.true, c.loop-next.invariant.within) in
    let home : c.index.result.now ≡ slice_index s.homes.items slot =
    get_or_read s.homes.items slot c.index.result.now there c.index.ensures 0 in
    sought_next s.homes.items s.before.items s.heads.items c.args.i slot c.loop-next.next
    c.index-next-in-loop-next.result.now s.chained c.loop-next.invariant
    (omega (arith, c.loop-next-test.true)) (λ e. c.if-index-i.false (home ∙ e))
    (get_or_read s.before.items slot c.index-next-in-loop-next.result.now
    (omega (arith, there, s.chained.as_many)) c.index-next-in-loop-next.ensures 0)
