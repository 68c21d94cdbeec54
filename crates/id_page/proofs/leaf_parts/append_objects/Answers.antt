-- Each object comes behind those before it.
use Rattle.std.proofs.Common.{◌∙◌, ◌-◌, ◌++◌, List, Some, ap, arith, drop, take}
use Rattle.bucket_page.proofs.Writing.{nothing}
use Rattle.bucket_page.specs.Layout.{Entry}
use Rattle.id_page.proofs.LeafReading.{count_of_leaf}
use Rattle.id_page.proofs.Lists.{appended_all, appended_more, appended_none}
use Rattle.id_page.proofs.leaf_parts.append_objects.Goals as goal

pub loop-place-init : goal.loop-place-init
loop-place-init g c = record {
  from = omega arith;
  many = omega arith;
  appended = λ objects more is in_other. is ∙ ap (λ (os : List Entry). Some os)
      (appended_none objects more c.args.from);
  tidy = λ before. before;
}

pub loop-place-preserved : goal.loop-place-preserved
loop-place-preserved g c =
    let before = c.loop-place.invariant in record {
      from = omega (arith, before.from);
      many = omega (arith, before.from, before.many, c.push_from.ensures.count);
      appended = λ objects more is in_other.
          let long = count_of_leaf g.row.D c.args.other.now more in_other in
          c.push_from.ensures.pushed
          (objects ++ take (c.loop-place.place - c.args.from) (drop c.args.from more)) more nothing
          (before.appended objects more is in_other) in_other
          ∙ ap (λ (os : List Entry). Some os)
          (appended_more objects more c.args.from c.loop-place.place nothing before.from
          (omega (arith, long)));
      tidy = λ was. c.push_from.ensures.tidy (before.tidy was);
    }

pub returns-clause-appended : goal.returns-clause-appended
returns-clause-appended g c = λ objects more is in_other.
    let long = count_of_leaf g.row.D c.args.other.now more in_other in
    c.loop-place.invariant.appended objects more is in_other
    ∙ ap (λ (os : List Entry). Some os)
    (appended_all objects more c.args.from c.loop-place.place (omega (arith, long)))
