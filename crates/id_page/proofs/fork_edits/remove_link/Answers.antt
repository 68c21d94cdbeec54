-- Each child behind the place moves one back, and the last place is taken.
use Rattle.std.proofs.Common.{◌≡◌, ◌∙◌, ◌+◌, ◌++◌, ◌<◌, List, Some, ap, arith, drop, get_or, length, refl}
use Rattle.std.proofs.Common.{remove, sym, take}
use Rattle.std.proofs.lemmas.List.Edits.{get_or-remove_above, length-remove}
use Rattle.block_bytes.specs.Numbers.{number_at}
use Rattle.id_page.specs.Fork.{ForkContent, Link, with_links}
use Rattle.id_page.proofs.ForkReading.{count_of_fork, same_link, some_link}
use Rattle.id_page.proofs.Lists.{moved_get, moved_long, moved_none, moved_step, removed_all, take-remove}
use Rattle.id_page.proofs.fork_edits.remove_link.Goals as goal

pub loop-at-init : goal.loop-at-init
loop-at-init c = record {
  from = omega arith;
  upto = omega arith;
  count = refl;
  moved = λ dims content is.
      let lt : c.args.place < length content.links =
      omega (arith, count_of_fork dims c.args.page.now content is) in
      is ∙ ap (λ (ls : List Link). Some (with_links content ls))
      (moved_none content.links (remove content.links c.args.place) c.args.place
      (take-remove content.links c.args.place lt));
  tidy = λ was. was;
}

pub loop-at-preserved : goal.loop-at-preserved
loop-at-preserved c =
    let before = c.loop-at.invariant in
    let at = c.loop-at.at in
    let place = c.args.place in record {
      from = omega (arith, before.from);
      upto = omega arith;
      count = c.set_link.ensures.count ∙ before.count;
      moved = λ dims content is.
          let xs = content.links in
          let ys = remove xs place in
          let long : number_at 2 2 c.args.page.now ≡ length xs =
          count_of_fork dims c.args.page.now content is in
          let within : at + 1 < length xs = omega (arith, long) in
          let less = length-remove xs place (omega (arith, within, before.from)) in
          let whole = moved_long xs ys at (omega (arith, within)) (omega (arith, within, less)) in
          let now : ForkContent = with_links content (take at ys ++ drop at xs) in
          let read : ◌≡◌ {A = Link} (c.key_at-key.result, c.page_at-child.result) (get_or ys at some_link) =
          same_link (get_or (take at ys ++ drop at xs) (at + 1) some_link) c.key_at-key.result
          c.page_at-child.result
          (c.key_at-key.ensures.of_fork dims now some_link (before.moved dims content is)
          (omega (arith, whole, within)))
          (c.page_at-child.ensures.of_fork dims now some_link (before.moved dims content is)
          (omega (arith, whole, within)))
          ∙ moved_get xs ys at (at + 1) some_link (omega (arith, within)) (omega (arith, within, less))
          (omega arith)
          ∙ sym (get_or-remove_above xs place some_link at before.from (omega (arith, within, before.from)))
          in
          c.set_link.ensures.replaced dims now (before.moved dims content is) (omega (arith, whole, within))
          ∙ ap (λ (ls : List Link). Some (with_links content ls))
          (moved_step xs ys at (c.key_at-key.result, c.page_at-child.result) some_link (omega (arith, within))
          (omega (arith, within, less)) read);
      tidy = λ was. c.set_link.ensures.tidy (omega (arith, before.count)) (before.tidy was);
    }

pub returns-clause-removed : goal.returns-clause-removed
returns-clause-removed c = λ dims content is.
    let last = c.loop-at.invariant in
    let at = c.loop-at.at in
    let place = c.args.place in
    let xs = content.links in
    let ys = remove xs place in
    let long : number_at 2 2 c.args.page.now ≡ length xs = count_of_fork dims c.args.page.now content is in
    let all : at + 1 ≡ length xs = omega (arith, long, last.upto) in
    c.pop_link.ensures.popped dims (with_links content (take at ys ++ drop at xs))
    (last.moved dims content is)
    ∙ ap (λ (ls : List Link). Some (with_links content ls))
    (removed_all xs place at (omega (arith, last.from, all)) all)
