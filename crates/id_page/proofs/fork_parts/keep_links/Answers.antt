-- Each step takes the last child.
use Rattle.std.proofs.Common.{◌≡◌, ◌∙◌, ◌+◌, ◌-◌, ℕ, Some, List, ap, arith, inr, length, take}
use Rattle.block_bytes.specs.Numbers.{number_at}
use Rattle.id_page.specs.Fork.{Link, with_links}
use Rattle.id_page.proofs.ForkReading.{count_of_fork}
use Rattle.id_page.proofs.Lists.{kept_at_last, taken_less}
use Rattle.id_page.proofs.fork_parts.keep_links.Goals as goal

pub loop-place-preserved : goal.loop-place-preserved
loop-place-preserved c =
    let before = c.loop-place.invariant in
    let place = c.loop-place.place in
    let many = c.args.many in record {
      from = omega (arith, before.from);
      upto = inr (omega arith);
      many = omega (arith, before.from, before.many, c.pop_link.ensures.count);
      kept = λ dims content is.
          let xs = content.links in
          let long : number_at 2 2 c.args.page.now ≡ length xs =
          count_of_fork dims c.args.page.now content is in
          let n : ℕ = length xs - (place + 1 - many) in
          let on : length xs - (place - many) ≡ n + 1 = omega (arith, before.from, long) in
          c.pop_link.ensures.popped dims (with_links content (take (n + 1) xs))
          (before.kept dims content is ∙ ap (λ (i : ℕ). Some (with_links content (take i xs))) on)
          ∙ ap (λ (ls : List Link). Some (with_links content ls)) (taken_less xs n (omega (arith, on)));
      tidy = λ was. c.pop_link.ensures.tidy (before.tidy was);
    }

pub returns-clause-kept : goal.returns-clause-kept
returns-clause-kept c = λ dims content is.
    let last = c.loop-place.invariant in
    last.kept dims content is ∙ ap (λ (ls : List Link). Some (with_links content ls))
    (kept_at_last content.links c.args.many c.loop-place.place (number_at 2 2 c.args.page.now)
    (count_of_fork dims c.args.page.now content is) last.from (omega arith) last.upto)
