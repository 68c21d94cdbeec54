-- The goals of `offer` that are proved by hand.
use Rattle.std.proofs.Common.{◌≡◌, ◌∙◌, ◌≤◌, true, false, length, map, take, ap, sym, rules, arith}
use Rattle.std.specs.Ordering.{is_lt}
use Rattle.box_math.specs.Nearest.{nearest_first, put_nearest_first}
use Rattle.nearest.proofs.QueueLemmas.{object_cmp, offer_in, offer_out, offer_over, row_of}
use Rattle.nearest.proofs.best.Best.offer.Goals as goal
use Rattle.nearest.proofs.best.Best.offer.Goals.{in-Some, in-None}

pub returns-then-len-k-clause-ok : goal.returns-then-len-k-clause-ok
returns-then-len-k-clause-ok g c =
    offer_in c.args.k c.self.inside.heap.data.items c.push.new.self.data.items c.args.object c.args.self.now
    c.self.view_is c.in_ok-push.ensures.permutation
    (omega (arith, c.if-len-k.true, c.len.ensures, c.self.inside.heap.data.ok.0))

pub returns-then-not-comes_first-clause-ok : goal.returns-then-not-comes_first-clause-ok
returns-then-not-comes_first-clause-ok g c =
    let objects = c.self.inside.heap.data.items in
    let full : c.args.k ≤ length objects =
    omega (arith, c.if-len-k.false, c.len.ensures, c.self.inside.heap.data.ok.0) in
    elim c.match-peek.branch [
      | in-Some w ↦
          let out : is_lt (object_cmp c.args.object w.in-Some.last.now) ≡ false =
          sym (ap is_lt w.cmp.ensures) ∙ sym w.is_lt-comes_first.ensures ∙ sym w.comes_first-is
          ∙ c.if-not-comes_first.true in
          sym c.self.view_is
          ∙ offer_out c.args.k objects c.args.object w.in-Some.last.now c.args.self.now c.self.view_is
          full c.requires.few (w.in-Some.ensures.greatest c.self.invariant) out
      | in-None w ↦ let never =
          w.in-None.ensures.variant.1 (omega (arith, c.if-len-k.false, c.len.ensures, c.requires.some)) in
          absurd (cc)
    ]

pub returns-clause-ok : goal.returns-clause-ok
returns-clause-ok g c =
    let objects = c.self.inside.heap.data.items in
    let full : c.args.k ≤ length objects =
    omega (arith, c.if-len-k.false, c.len.ensures, c.self.inside.heap.data.ok.0) in
    elim c.match-peek.branch [
      | in-Some w ↦
          let before : is_lt (object_cmp c.args.object w.in-Some.last.now) ≡ true =
          sym (ap is_lt w.cmp.ensures) ∙ sym w.is_lt-comes_first.ensures ∙ sym w.comes_first-is
          ∙ c.if-not-comes_first.false in
          let out = rw w.self-inside-is at c.in-Some-peek_mut.ensures.permutation in
          let above = rw w.self-inside-is at c.in-Some-peek_mut.ensures.greatest in
          let back = c.drop-last.ensures.permutation (search rules) in
          let new = c.drop-last.new.self.0.data.items in
          let done : nearest_first (map row_of new) ≡ take c.args.k
          (put_nearest_first (row_of c.args.object) c.args.self.now) =
          offer_over c.args.k objects c.in-Some-peek_mut.last.heap.now.data.items new c.args.object
          w.in-Some.last.now c.in-Some-peek_mut.last.top c.args.self.now c.self.view_is full
          c.requires.few (omega (arith, full, c.requires.some))
          w.in-Some.ensures.lookup before (above c.self.invariant) out back in
          search rules
      | in-None w ↦ let never = sym w.comes_first-is ∙ c.if-not-comes_first.false in absurd (cc)
    ]
