-- What a stop within an opening leaves.
use Rattle.std.proofs.Common.{◌≡◌, ◌≤◌, ◌∙◌, ap, arith, inl, subst}
use Rattle.committed_log.specs.Log.{recovered}
use Rattle.journaled_device.specs.Journaled.{pair_of}
use Rattle.journaled_file.proofs.OpeningStops.{back_from_pair, back_to_files}
use Rattle.journaled_file.specs.Opened.{LeavesRead}
use Rattle.marked_pair.specs.Mark.{unmarked}
use Rattle.marked_pair.specs.Pair.{pair_of as titled_of}
use Rattle.titled_pair.specs.Pair.{pair_of as files_of}
use Rattle.titled_pair.specs.Title.{untitled}
use Rattle.journaled_file.proofs.open.open_over.Goals as goal

pub returns-in-Err-over-clause-refused_stops : goal.returns-in-Err-over-clause-refused_stops
returns-in-Err-over-clause-refused_stops g c = λ h t a e le left.
    let p = g.P.DevicePair in
    let w = g.met.P.DevicePair in
    let h1 = c.in-Ok.ensures.honest.0 h in
    let first = c.in-Ok.ensures.stops h in
    let second = c.in-Err-over.ensures.refused_stops h1 in
    let p1 = files_of c.in-Ok.titled in
    let p2 = files_of c.in-Err-over.titled in
    let le1 : t ≤ p.moment p1 = omega (arith, le, first.later) in
    inl (back_to_files (p.left_since c.args.pair t) (p.left_since p1 t) (p.left_since p2 t)
    (p.may_leave c.args.pair) (p.may_leave p1) (λ x y. ⊥)
    (λ x y now. w.counts_now c.args.pair t x y h le now)
    (λ x y now. w.counts_now p1 t x y h1 le1 now)
    (λ x y no. absurd no)
    (λ x y is. first.before t x y le is)
    (λ x y is. second.before t x y le1 is)
    a e (subst (λ x. p.left_since x t a e) c.into_pair-in-Err-over.ensures left))

pub returns-in-Ok-open-clause-stops : goal.returns-in-Ok-open-clause-stops
returns-in-Ok-open-clause-stops g c = λ h t a e le left.
    let p = g.P.DevicePair in
    let w = g.met.P.DevicePair in
    let h1 = c.in-Ok.ensures.honest.0 h in
    let h2 = c.in-Ok-over.ensures.honest.0 h1 in
    let first = c.in-Ok.ensures.stops h in
    let second = c.in-Ok-over.ensures.stops h1 in
    let third = c.in-Ok-open.ensures.stops h2 in
    let p1 = files_of c.in-Ok.titled in
    let p2 = files_of (titled_of c.in-Ok-over.marked) in
    let p3 = files_of (titled_of (pair_of c.in-Ok-open.device)) in
    let le1 : t ≤ p.moment p1 = omega (arith, le, first.later) in
    let le2 : t ≤ p.moment p2 = omega (arith, le1, second.later) in
    let base : p.base p2 ≡ p.base c.args.pair = c.in-Ok-over.ensures.base h1 ∙ c.in-Ok.ensures.base h in
    let journal : untitled (p.journal p2) ≡ untitled (p.journal c.args.pair) =
    c.in-Ok-over.ensures.journal h1 ∙ ap untitled (c.in-Ok.ensures.journal h) in
    subst (λ blocks. LeavesRead (p.left_since c.args.pair t) blocks a e)
    (ap (λ x. recovered (unmarked x) (untitled (p.journal p2))) base
    ∙ ap (recovered (unmarked (p.base c.args.pair))) journal)
    (back_from_pair (p.left_since c.args.pair t) (p.left_since p1 t) (p.left_since p2 t)
    (p.may_leave c.args.pair) (p.may_leave p1) (p.may_leave p2)
    (λ x y now. w.counts_now c.args.pair t x y h le now)
    (λ x y now. w.counts_now p1 t x y h1 le1 now)
    (λ x y now. w.counts_now p2 t x y h2 le2 now)
    (λ x y is. first.before t x y le is)
    (λ x y is. second.before t x y le1 is)
    (p.left_since p3 t) (recovered (unmarked (p.base p2)) (untitled (p.journal p2)))
    (λ x y is. third.before t x y le2 is)
    a e left)

pub returns-in-Err-open-clause-refused_stops : goal.returns-in-Err-open-clause-refused_stops
returns-in-Err-open-clause-refused_stops g c = λ h t a e le left.
    let p = g.P.DevicePair in
    let w = g.met.P.DevicePair in
    let h1 = c.in-Ok.ensures.honest.0 h in
    let h2 = c.in-Ok-over.ensures.honest.0 h1 in
    let first = c.in-Ok.ensures.stops h in
    let second = c.in-Ok-over.ensures.stops h1 in
    let third = c.in-Err-open.ensures.refused_stops h2 in
    let p1 = files_of c.in-Ok.titled in
    let p2 = files_of (titled_of c.in-Ok-over.marked) in
    let p3 = files_of (titled_of c.in-Err-open.left) in
    let le1 : t ≤ p.moment p1 = omega (arith, le, first.later) in
    let le2 : t ≤ p.moment p2 = omega (arith, le1, second.later) in
    let base : p.base p2 ≡ p.base c.args.pair = c.in-Ok-over.ensures.base h1 ∙ c.in-Ok.ensures.base h in
    let journal : untitled (p.journal p2) ≡ untitled (p.journal c.args.pair) =
    c.in-Ok-over.ensures.journal h1 ∙ ap untitled (c.in-Ok.ensures.journal h) in
    subst (λ blocks. LeavesRead (p.left_since c.args.pair t) blocks a e)
    (ap (λ x. recovered (unmarked x) (untitled (p.journal p2))) base
    ∙ ap (recovered (unmarked (p.base c.args.pair))) journal)
    (back_from_pair (p.left_since c.args.pair t) (p.left_since p1 t) (p.left_since p2 t)
    (p.may_leave c.args.pair) (p.may_leave p1) (p.may_leave p2)
    (λ x y now. w.counts_now c.args.pair t x y h le now)
    (λ x y now. w.counts_now p1 t x y h1 le1 now)
    (λ x y now. w.counts_now p2 t x y h2 le2 now)
    (λ x y is. first.before t x y le is)
    (λ x y is. second.before t x y le1 is)
    (p.left_since p3 t) (recovered (unmarked (p.base p2)) (untitled (p.journal p2)))
    (λ x y is. third.before t x y le2 is)
    a e (subst (λ x. p.left_since x t a e)
    (c.into_pair-in-Err-open-2.ensures ∙ ap files_of c.into_pair-in-Err-open.ensures) left))
