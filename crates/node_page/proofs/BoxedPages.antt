-- A node at a page of a cache one of whose entries gets another box.
use Rattle.std.proofs.Common.{◌≡◌, ◌∙◌, ℕ, ◌<◌, ap, is_some, length, List, Option, Some, subst}
use Rattle.std.specs.Prelude.{IsSomeAnd, Ok}
use Rattle.box_math.specs.Bounds.{Bounds}
use Rattle.page_cache.specs.Cache.{IsHonest, pages}
use Rattle.page_cache.specs.Laws.{a_live_page_is_given}
use Rattle.page_cache.specs.PageSteps.{Edits}
use Rattle.page_cache.specs.declared.cache.PageCache.{PageCache}
use Rattle.tree_node.specs.Nodes.{NodeContent}
use Rattle.node_bytes.specs.Enlarged.{IsBoxed, with_box_at}
use Rattle.node_bytes.specs.Layout.{IsTidy}
use Rattle.node_page.specs.Standing.{HasPageOf, IsTidyAt, node_in}
use Rattle.node_page.proofs.NodeLemmas.{bytes_of_node, node_of_page}
use Rattle.node_bytes.proofs.TidyLemmas.{Left, at_page}

module _ {D A : Type 0} {m : _} {T : Type 0} (dims place n : ℕ) (b : Bounds) (old mid new : PageCache D A m)
    (x : T) (stays : pages mid n ≡ pages old n) (honest : IsHonest mid)
    (edit : Edits n (λ was answer now. IsBoxed dims place b was now) mid new (Ok x)) (c : NodeContent)
    (is : node_in dims (pages old n) ≡ Some c) (within : place < length c.entries) where
  -- the bytes that were at the page
  abbrev was : List ℕ
  was = (bytes_of_node dims (pages old n) c is).0

  -- and those that the edit left there
  left : Left dims (pages new n) was (with_box_at c place b)
  left =
      let bytes = bytes_of_node dims (pages old n) c is in
      let live : pages mid n ≡ Some was = stays ∙ bytes.1 in
      let did = edit.edited honest was (a_live_page_is_given mid n was live) in
      record {
        now = did.0;
        there = did.2 (ap is_some live);
        spelled = did.3.spelled c bytes.2 within;
        is_page = λ tidy. did.3.is_page tidy c bytes.2 within;
      }

  pub node_boxed : node_in dims (pages new n) ≡ Some (with_box_at c place b)
  node_boxed = node_of_page dims (pages new n) left.now (Some (with_box_at c place b)) left.there left.spelled

  pub page_boxed : IsTidyAt dims (pages old) n → HasPageOf dims (pages new) n (with_box_at c place b)
  page_boxed tidy = at_page dims (pages new n) left.now (with_box_at c place b) left.there
      (left.is_page (subst (λ (o : Option (List ℕ)). IsSomeAnd o (IsTidy dims))
      (bytes_of_node dims (pages old n) c is).1 tidy))
