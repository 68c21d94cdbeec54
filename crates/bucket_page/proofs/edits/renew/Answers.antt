-- A bucket of format 1 is encoded anew, and another page stays.
use Rattle.std.proofs.Common.{◌≡◌, ◌∙◌, ⊎_elim, Some, arith, sym}
use Rattle.block_bytes.specs.Numbers.{number_at}
use Rattle.bucket_page.specs.Layout.{bucket_at, content_of}
use Rattle.bucket_page.proofs.Reading.{count_of_bucket, spelled, spells}
use Rattle.bucket_page.proofs.edits.renew.Goals as goal

pub returns-then-read_u8-ne-UNTAGGED_BUCKET_KIND-clause-kind : goal.returns-then-read_u8-ne-UNTAGGED_BUCKET_KIND-clause-kind
returns-then-read_u8-ne-UNTAGGED_BUCKET_KIND-clause-kind g c = λ bucket is. ⊎_elim
    (λ (written : number_at 1 0 c.args.page.now ≡ 7). written)
    (λ (old : number_at 1 0 c.args.page.now ≡ 4). absurd (omega arith))
    (spells g.row.D c.args.page.now bucket is).head.kind

pub returns-in-Some-clause-same : goal.returns-in-Some-clause-same
returns-in-Some-clause-same g c =
    let was : bucket_at g.row.D c.args.page.now ≡ Some (content_of c.in-Some.bucket) =
    sym c.in-Some.ensures.spelled in
    spelled g.row.D c.encode.new.page (content_of c.in-Some.bucket) c.encode.ensures.spelled ∙ sym was

pub returns-in-Some-clause-count : goal.returns-in-Some-clause-count
returns-in-Some-clause-count g c =
    let bucket = content_of c.in-Some.bucket in
    let was : bucket_at g.row.D c.args.page.now ≡ Some bucket = sym c.in-Some.ensures.spelled in
    count_of_bucket g.row.D c.encode.new.page bucket
    (spelled g.row.D c.encode.new.page bucket c.encode.ensures.spelled)
    ∙ sym (count_of_bucket g.row.D c.args.page.now bucket was)
