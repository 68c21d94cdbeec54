-- The child has its key as before.
use Rattle.std.proofs.Common.{◌∙◌, Some, ap, set}
use Rattle.id_page.specs.Fork.{with_links}
use Rattle.id_page.proofs.fork_edits.set_page.Goals as goal

pub returns-clause-replaced : goal.returns-clause-replaced
returns-clause-replaced c = λ dims content other is within.
    c.set_link.ensures.replaced dims content is within
    ∙ ap (λ k. Some (with_links content (set content.links c.args.place (k, c.args.child))))
    (c.key_at-key.ensures.of_fork dims content other is within)
