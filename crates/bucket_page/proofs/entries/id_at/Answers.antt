-- The identifier of a bucket's object is the number in its place.
use Rattle.std.proofs.Common.{◌≡◌, ℕ, sym, ◌∙◌, ap}
use Rattle.block_bytes.specs.Numbers.{number_at}
use Rattle.bucket_page.specs.Layout.{entry_place, size_in}
use Rattle.bucket_page.proofs.Reading.{id_of_bucket}
use Rattle.bucket_page.proofs.entries.id_at.Goals as goal

pub returns-clause-value : goal.returns-clause-value
returns-clause-value g c =
    let at : c.place_of.result ≡ entry_place (size_in g.row.D c.args.page.now) c.args.place
    = c.place_of.ensures.value ∙ ap (λ (size : ℕ). entry_place size c.args.place) c.size_of.ensures.value in
    c.read_u64.ensures ∙ ap (λ (p : ℕ). number_at 8 p c.args.page.now) at

pub returns-clause-of_bucket : goal.returns-clause-of_bucket
returns-clause-of_bucket g c = λ bucket other is lt. returns-clause-value g c
    ∙ sym (id_of_bucket g.row.D c.args.page.now bucket c.args.place other is lt)
