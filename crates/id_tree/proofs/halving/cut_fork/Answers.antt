-- Both pages are made of the children on their sides of a place.
use Rattle.std.proofs.Common.{◌∙◌, Some, take, sym, ap, arith}
use Rattle.id_page.proofs.ForkReading.{count_of_fork}
use Rattle.id_tree.proofs.halving.cut_fork.Goals as goal

pub returns-clause-cuts : goal.returns-clause-cuts
returns-clause-cuts c = λ dims content is level.
    let many = c.children_kept-many.result in
    let count = count_of_fork dims c.args.page.now content is in
    record {
      many = many;
      key_is = λ other. sym
          (c.key_at.ensures.of_fork dims content other is
          (omega (arith, count, c.requires.full, c.children_kept-many.ensures.some)));
      upto = c.fork_upto.ensures.upto dims content is
          ∙ ap (λ l. Some (record { level = l; links = take many content.links })) level;
      beyond = c.fork_beyond.ensures.beyond dims content is;
      large = c.children_kept-many.ensures.large;
      some = omega (arith, count, c.requires.full, c.children_kept-many.ensures.some);
      rest = λ off. let rest = c.children_kept-many.ensures.rest off in
          omega (arith, count, c.requires.full, rest);
    }
