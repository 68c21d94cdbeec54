-- Each child comes behind those before it.
use Rattle.std.proofs.Common.{◌≡◌, ◌∙◌, ◌-◌, ◌++◌, ◌∷◌, ◌<◌, List, Some, [], ap, arith, drop, get_or, length}
use Rattle.std.proofs.Common.{take}
use Rattle.id_page.specs.Fork.{Link, with_links}
use Rattle.id_page.proofs.ForkReading.{count_of_fork, same_link, some_link}
use Rattle.id_page.proofs.Lists.{appended_all, appended_more, appended_none}
use Rattle.id_page.proofs.fork_parts.append_links.Goals as goal

pub loop-place-init : goal.loop-place-init
loop-place-init c = record {
  from = omega arith;
  many = omega arith;
  appended = λ dims content more is in_other. is
      ∙ ap (λ (ls : List Link). Some (with_links content ls))
      (appended_none content.links more.links c.args.from);
  tidy = λ was. was;
}

pub loop-place-preserved : goal.loop-place-preserved
loop-place-preserved c =
    let before = c.loop-place.invariant in
    let place = c.loop-place.place in
    let from = c.args.from in record {
      from = omega (arith, before.from);
      many = omega (arith, before.from, before.many, c.push_link.ensures.count);
      appended = λ dims content more is in_other.
          let long = count_of_fork dims c.args.other.now more in_other in
          let within : place < length more.links = omega (arith, long) in
          let so_far : List Link = content.links ++ take (place - from) (drop from more.links) in
          let read : ◌≡◌ {A = Link} (c.key_at.result, c.page_at.result) (get_or more.links place some_link) =
          same_link (get_or more.links place some_link) c.key_at.result c.page_at.result
          (c.key_at.ensures.of_fork dims more some_link in_other within)
          (c.page_at.ensures.of_fork dims more some_link in_other within) in
          c.push_link.ensures.pushed dims (with_links content so_far)
          (before.appended dims content more is in_other)
          ∙ ap (λ (x : Link). Some (with_links content (so_far ++ x ∷ []))) read
          ∙ ap (λ (ls : List Link). Some (with_links content ls))
          (appended_more content.links more.links from place some_link before.from within);
      tidy = λ was. c.push_link.ensures.tidy (before.tidy was);
    }

pub returns-clause-appended : goal.returns-clause-appended
returns-clause-appended c = λ dims content more is in_other.
    let long = count_of_fork dims c.args.other.now more in_other in
    c.loop-place.invariant.appended dims content more is in_other
    ∙ ap (λ (ls : List Link). Some (with_links content ls))
    (appended_all content.links more.links c.args.from c.loop-place.place (omega (arith, long)))
