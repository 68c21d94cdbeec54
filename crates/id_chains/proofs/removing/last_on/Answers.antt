-- The goal of `last_on` that is proved by hand: a page that begins as no bucket spells none.
use Rattle.bucket_page.proofs.Reading.{no_head}
use Rattle.id_chains.proofs.removing.last_on.Goals as goal

pub returns-then-not-has_bucket_head : goal.returns-then-not-has_bucket_head
returns-then-not-has_bucket_head g c =
    record {
      of_bucket = λ content other is. let none = no_head g.row.D c.args.page.now
          (λ head. let found = c.has_bucket_head.ensures.1 head in absurd (cc)) in absurd (cc (is, none));
    }
