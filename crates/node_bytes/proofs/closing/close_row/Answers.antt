-- The bytes behind those taken are copied over them, and zeros are written over the last ones.
use Rattle.std.proofs.Common.{◌≡◌, ◌-◌, ◌+◌, ◌<◌, ◌≤◌, ℕ, arith, inl, inr, length, replicate, rules, ⊎_elim}
use Rattle.node_bytes.proofs.ClosedLemmas.{row_closed, zeros_beside, zeros_filled, zeros_there}
use Rattle.node_bytes.proofs.closing.close_row.Goals as goal

pub returns : goal.returns
returns c =
    let from = c.args.from in
    let to = c.args.to in
    let width = c.args.width in
    let mid = c.copy_within.new.self in
    let ys = c.fill.new.self in
    let copied = c.copy_within.ensures.by_index in
    let size : length mid ≡ 4096 = omega (arith, c.copy_within.ensures.len, c.told-page) in
    let a : ℕ = to - width in
    let n : ℕ = to - a in
    let fits : a + n ≤ length mid = omega (arith, size, c.requires.within, c.requires.fits) in
    let zeros : ys ≡ replicate n 0 = zeros_filled a n mid ys fits (c.fill.ensures.after (λ y is. search rules)) in
    row_closed from to width c.args.page.now mid _ c.requires.within copied.0 copied.1 copied.2
    (λ k le lt. zeros_there a n mid ys fits zeros k (omega (arith, le)) (omega (arith, lt, c.requires.within)))
    (λ k apart. zeros_beside a n mid ys fits zeros k
    (⊎_elim (λ (before : k + width < to). inl (omega (arith, before)))
    (λ (after : to ≤ k). inr (omega (arith, after, c.requires.within))) apart))
