-- Each byte is read after those before it.
use Rattle.std.proofs.Common.{◌≡◌, ◌+◌, ◌++◌, ◌∷◌, ℕ, List, [], length, sym, ◌∙◌, ap}
use Rattle.catalog_page.specs.Layout.{bytes_at}
use Rattle.block_bytes.specs.Numbers.{number_at}
use Rattle.block_bytes.specs.PlaceLaws.{first_places-more, first_places-none, length-first_places}
use Rattle.catalog_page.proofs.names.read_name.Goals as goal

pub loop-k-init : goal.loop-k-init
loop-k-init c =
    record {
      read = c.new-name.ensures
          ∙ sym (first_places-none (λ k. number_at 1 (c.args.at + 1 + k) c.args.page.now));
      many = ap length c.new-name.ensures;
    }

pub loop-k-preserved : goal.loop-k-preserved
loop-k-preserved c =
    let page = c.args.page.now in
    let from = c.args.at + 1 in
    let k = c.loop-k.k in
    let all : c.push.new.self.items ≡ bytes_at (k + 1) from page =
    c.push.ensures.items
    ∙ ap (λ (xs : List ℕ). xs ++ c.read_u8-in-loop-k.result ∷ []) c.loop-k.invariant.read
    ∙ ap (λ (x : ℕ). bytes_at k from page ++ x ∷ []) c.read_u8-in-loop-k.ensures
    ∙ sym (first_places-more (λ j. number_at 1 (from + j) page) k) in record {
      read = all;
      many = ap length all ∙ length-first_places (λ j. number_at 1 (from + j) page) (k + 1);
    }
