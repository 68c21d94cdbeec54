-- Each byte is cleared after those before it.
use Rattle.std.proofs.Common.{◌≡◌, ◌∙◌, ℕ, ap, arith, refl, sym}
use Rattle.bucket_page.specs.Layout.{entry_place, entry_size}
use Rattle.bucket_page.proofs.Places.{cleared_keeps, cleared_more, entry_place-more, entry_size-written}
use Rattle.bucket_page.proofs.entries.clear_entry.Goals as goal

pub loop-k-init : goal.loop-k-init
loop-k-init g c = record {
  size = c.told-page;
  from = omega arith;
  cleared = λ j from below. absurd (omega (arith, from, below));
  others = λ n at clear. refl;
}

pub loop-k-preserved : goal.loop-k-preserved
loop-k-preserved g c =
    let before = c.loop-k.invariant in
    let k = c.loop-k.k in
    let at : c.place_of-at.result ≡ entry_place (entry_size g.row.D 7) c.args.place
    = c.place_of-at.ensures.value
    ∙ ap (λ (size : ℕ). entry_place size c.args.place) (sym (entry_size-written g.row.D)) in
    record {
      size = c.write_u8.array_long;
      from = omega (arith, before.from);
      cleared =
          rw c.write_u8.ensures
          (cleared_more c.place_of-at.result k c.loop-k.page (omega arith) before.cleared);
      others =
          rw c.write_u8.ensures
          (cleared_keeps g.row.D c.args.place c.place_of-at.result k c.args.page.now c.loop-k.page at
          before.from (omega arith) (omega arith) before.others);
    }

pub returns-clause-cleared : goal.returns-clause-cleared
returns-clause-cleared g c = λ k from below.
    let at : c.place_of-at.result ≡ entry_place (entry_size g.row.D 7) c.args.place
    = c.place_of-at.ensures.value
    ∙ ap (λ (size : ℕ). entry_place size c.args.place) (sym (entry_size-written g.row.D)) in
    let more = entry_place-more (entry_size g.row.D 7) c.args.place in
    let size = entry_size-written g.row.D in
    c.loop-k.invariant.cleared k (omega (arith, at, from)) (omega (arith, at, below, more, size))
