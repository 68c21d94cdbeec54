-- The goals of `next_set` that are proved by hand.
use Rattle.std.proofs.Common.{◌/◌, ◌^◌, ◌<◌, arith}
use Rattle.std.proofs.Math.Nat.{div-le_self}
use Rattle.node_bytes.proofs.MaskLemmas.{set_there, unset_before}
use Rattle.node_bytes.proofs.masks.next_set.Goals as goal

pub returns-clause-unset : goal.returns-clause-unset
returns-clause-unset c = λ k up below.
    let small : c.args.mask / 2 ^ c.args.from < 2 ^ 128 =
    omega (arith, div-le_self c.args.mask (2 ^ c.args.from)) in
    unset_before c.args.mask c.args.from k small up below

pub returns-clause-set : goal.returns-clause-set
returns-clause-set c = λ within.
    let small : c.args.mask / 2 ^ c.args.from < 2 ^ 128 =
    omega (arith, div-le_self c.args.mask (2 ^ c.args.from)) in
    set_there c.args.mask c.args.from small within
