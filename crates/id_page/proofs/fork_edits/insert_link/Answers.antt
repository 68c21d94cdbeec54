-- Each child moves one place on, and the last one comes behind all.
use Rattle.std.proofs.Common.{◌≡◌, ◌∙◌, ◌++◌, ◌∷◌, ◌<◌, ◌≤◌, ℕ, List, Some, [], ap, arith, drop, get_or}
use Rattle.std.proofs.Common.{insert, length, refl, sym, take}
use Rattle.std.proofs.lemmas.List.Edits.{get_or-insert_above, get_or-insert_at, length-insert}
use Rattle.block_bytes.specs.Numbers.{number_at}
use Rattle.id_page.specs.Fork.{ForkContent, Link, with_links}
use Rattle.id_page.proofs.ForkReading.{count_of_fork, same_link, some_link}
use Rattle.id_page.proofs.Lists.{inserted_all, moved_get, moved_long, moved_none, moved_step, take-insert}
use Rattle.id_page.proofs.fork_edits.insert_link.Goals as goal

pub loop-at-init : goal.loop-at-init
loop-at-init c = record {
  from = omega arith;
  upto = omega arith;
  count = refl;
  moved = λ dims content is.
      let link : Link = (c.args.key, c.args.child) in
      let le : c.args.place ≤ length content.links =
      omega (arith, count_of_fork dims c.args.page.now content is) in
      is ∙ ap (λ (ls : List Link). Some (with_links content ls))
      (moved_none content.links (insert content.links c.args.place link) c.args.place
      (take-insert content.links c.args.place link le));
  carried = λ dims content is.
      let le : c.args.place ≤ length content.links =
      omega (arith, count_of_fork dims c.args.page.now content is) in
      sym (get_or-insert_at content.links c.args.place (c.args.key, c.args.child) some_link le);
  tidy = λ was. was;
}

pub loop-at-preserved : goal.loop-at-preserved
loop-at-preserved c =
    let before = c.loop-at.invariant in
    let at = c.loop-at.at in
    let place = c.args.place in
    let link : Link = (c.args.key, c.args.child) in record {
      from = omega (arith, before.from);
      upto = omega arith;
      count = c.set_link.ensures.count ∙ before.count;
      moved = λ dims content is.
          let xs = content.links in
          let ys = insert xs place link in
          let long : number_at 2 2 c.args.page.now ≡ length xs =
          count_of_fork dims c.args.page.now content is in
          let within : at < length xs = omega (arith, long) in
          let more = length-insert xs place link (omega (arith, within, before.from)) in
          let whole = moved_long xs ys at (omega (arith, within)) (omega (arith, within, more)) in
          c.set_link.ensures.replaced dims (with_links content (take at ys ++ drop at xs))
          (before.moved dims content is) (omega (arith, whole, within))
          ∙ ap (λ (ls : List Link). Some (with_links content ls))
          (moved_step xs ys at (c.loop-at.moved_key, c.loop-at.moved_child) some_link within
          (omega (arith, within, more)) (before.carried dims content is));
      carried = λ dims content is.
          let xs = content.links in
          let ys = insert xs place link in
          let long : number_at 2 2 c.args.page.now ≡ length xs =
          count_of_fork dims c.args.page.now content is in
          let within : at < length xs = omega (arith, long) in
          let more = length-insert xs place link (omega (arith, within, before.from)) in
          let whole = moved_long xs ys at (omega (arith, within)) (omega (arith, within, more)) in
          let now : ForkContent = with_links content (take at ys ++ drop at xs) in
          same_link (get_or (take at ys ++ drop at xs) at some_link) c.key_at-next_key.result
          c.page_at-next_child.result
          (c.key_at-next_key.ensures.of_fork dims now some_link (before.moved dims content is)
          (omega (arith, whole, within)))
          (c.page_at-next_child.ensures.of_fork dims now some_link (before.moved dims content is)
          (omega (arith, whole, within)))
          ∙ moved_get xs ys at at some_link (omega (arith, within)) (omega (arith, within, more))
          (omega arith)
          ∙ sym (get_or-insert_above xs place link some_link at before.from
          (omega (arith, within, before.from)));
      tidy = λ was. c.set_link.ensures.tidy (omega (arith, before.count)) (before.tidy was);
    }

pub returns-clause-inserted : goal.returns-clause-inserted
returns-clause-inserted c = λ dims content is.
    let last = c.loop-at.invariant in
    let at = c.loop-at.at in
    let place = c.args.place in
    let link : Link = (c.args.key, c.args.child) in
    let moved : Link = (c.loop-at.moved_key, c.loop-at.moved_child) in
    let xs = content.links in
    let ys = insert xs place link in
    let long : number_at 2 2 c.args.page.now ≡ length xs = count_of_fork dims c.args.page.now content is in
    let all : at ≡ length xs = omega (arith, long, last.upto) in
    c.push_link.ensures.pushed dims (with_links content (take at ys ++ drop at xs))
    (last.moved dims content is)
    ∙ ap (λ (ls : List Link). Some (with_links content ls))
    (ap (λ (i : ℕ). (take i ys ++ drop i xs) ++ moved ∷ []) all
    ∙ inserted_all xs place link moved some_link (omega (arith, last.from, all))
    (last.carried dims content is ∙ ap (λ (i : ℕ). get_or ys i some_link) all))
