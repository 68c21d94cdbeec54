-- The goals of `pop_or_next` that are proved by hand: a bucket page has one object, or more.
use Rattle.std.proofs.Common.{◌≡◌, length, arith, inr}
use Rattle.bucket_page.proofs.Reading.{count_of_bucket, spells}
use Rattle.id_chains.proofs.TidyLemmas.{bucket_kept}
use Rattle.id_chains.proofs.removing.pop_or_next.Goals as goal
use Rattle.id_chains.proofs.removing.pop_or_next.Goals.{then-count-le1-via-then-count-le1}
use Rattle.id_chains.proofs.removing.pop_or_next.Goals.{then-count-le1-via-else-count-le1+then-count-gt100}

pub returns-then-count-le1 : goal.returns-then-count-le1
returns-then-count-le1 g c = record {
  popped = λ never. absurd (cc);
  only = λ next is content there.
      let dims = g.row.D in
      let head = (spells dims c.args.page.now content there).head in
      let counted = count_of_bucket dims c.args.page.now content there in
      let count = c.count_at-count.ensures.of_bucket dims content there in
      let told = c.next_at.ensures.of_bucket dims content there in
      let one : length content.entries ≡ 1 = elim c.then-count-le1.branch [
        | then-count-le1-via-then-count-le1 w ↦ omega (arith, head.some, counted, count, w.if-count-le1.true)
        | then-count-le1-via-else-count-le1+then-count-gt100 w ↦ absurd
            (omega (arith, head.few, counted, count, w.if-count-gt100.true))
      ] in
      (one, (let same : c.next_at.result ≡ next = cc in cc (same, told)));
  tidy = λ content there tidy. tidy;
}

pub returns : goal.returns
returns g c = record {
  popped = λ told content is. (
    omega (arith, c.count_at-count.ensures.of_bucket g.row.D content is, c.if-count-le1.false),
    c.pop_entry.ensures.popped content is,
  );
  only = λ next never. absurd (cc);
  tidy = λ content is.
      bucket_kept g.row.D c.args.page.now c.pop_entry.new.page content is
      (c.pop_entry.ensures.kind content is) (λ tidy. c.pop_entry.ensures.tidy content is (inr tidy));
}
