-- The tag by the page's kind.
use Rattle.std.proofs.Common.{◌≡◌, ◌∙◌, arith}
use Rattle.block_bytes.specs.Numbers.{number_at}
use Rattle.bucket_page.proofs.Places.{tag_in-tagged, tag_in-untagged}
use Rattle.bucket_page.proofs.entries.tag_at.Goals as goal

pub returns-then-read_u8-eq-UNTAGGED_BUCKET_KIND : goal.returns-then-read_u8-eq-UNTAGGED_BUCKET_KIND
returns-then-read_u8-eq-UNTAGGED_BUCKET_KIND c =
    let is : number_at 1 0 c.args.page.now ≡ 4 = omega arith in
    tag_in-untagged (number_at 1 0 c.args.page.now) c.args.at c.args.page.now is

pub returns : goal.returns
returns c = c.read_u32.ensures
    ∙ tag_in-tagged (number_at 1 0 c.args.page.now) c.args.at c.args.page.now (λ is. absurd (omega arith))
