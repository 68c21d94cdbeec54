-- The length and then each byte is written in its place, and no other place changes.
use Rattle.std.proofs.Common.{◌+◌, ◌<◌, get_or, sym, arith, rules, refl}
use Rattle.block_bytes.specs.Numbers.{number_at}
use Rattle.block_bytes.specs.PlaceLaws.{first_places-are}
use Rattle.catalog_page.proofs.Writing.{name_first, name_more}
use Rattle.catalog_page.proofs.names.write_name.Goals as goal

pub loop-k-init : goal.loop-k-init
loop-k-init c =
    rw (c.write_u8.ensures, c.len-length.ensures.value)
    (name_first c.args.at c.args.name.now.items c.args.page.now c.told-page c.requires (omega arith))

pub loop-k-preserved : goal.loop-k-preserved
loop-k-preserved c =
    let name = c.args.name.now.items in
    let byte = get_or name c.loop-k.k 0 in
    let small : byte < 256 = search rules in
    rw (c.write_u8-in-loop-k.ensures, c.deref.ensures.0)
    (name_more c.loop-k.k c.args.at byte name c.args.page.now c.loop-k.page c.loop-k.invariant c.requires
    (omega arith) small refl)

pub returns-clause-bytes : goal.returns-clause-bytes
returns-clause-bytes c =
    sym (first_places-are (λ k. number_at 1 (c.args.at + 1 + k) c.loop-k.page) _ c.args.name.now.items 0 refl
    (λ k lt. c.loop-k.invariant.bytes k (omega arith)))
