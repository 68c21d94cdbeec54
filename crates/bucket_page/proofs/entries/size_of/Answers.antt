-- The size by the page's kind.
use Rattle.std.proofs.Common.{◌≡◌, arith, sym}
use Rattle.block_bytes.specs.Numbers.{number_at}
use Rattle.bucket_page.proofs.Places.{entry_size-tagged, entry_size-untagged}
use Rattle.bucket_page.proofs.entries.size_of.Goals as goal

pub returns-then-read_u8-eq-UNTAGGED_BUCKET_KIND-clause-value : goal.returns-then-read_u8-eq-UNTAGGED_BUCKET_KIND-clause-value
returns-then-read_u8-eq-UNTAGGED_BUCKET_KIND-clause-value g c =
    let is : number_at 1 0 c.args.page.now ≡ 4 = omega arith in
    sym (entry_size-untagged g.row.D (number_at 1 0 c.args.page.now) is)

pub returns-clause-value : goal.returns-clause-value
returns-clause-value g c =
    sym (entry_size-tagged g.row.D (number_at 1 0 c.args.page.now) (λ is. absurd (omega arith)))
