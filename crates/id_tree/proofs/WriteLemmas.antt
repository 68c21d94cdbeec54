-- Pages given out and put, one after the other.
use Rattle.std.proofs.Common.{◌≡◌, ◌∙◌, ℕ, IsSome, List, sym, ap, subst}
use Rattle.node_page.specs.Standing.{PageMap}
use Rattle.node_page.proofs.PartLemmas.{there_not_missing}
use Rattle.id_tree.specs.Writes.{Gives}

pub gives_apart : (old new : PageMap) (number page : ℕ) (bytes : List ℕ) → Gives old new number bytes
    → IsSome (old page) → ¬ (number ≡ page)
gives_apart old new number page bytes g live is =
    there_not_missing (old page) live (ap old (sym is) ∙ g.fresh)

pub still_live : (old new : PageMap) (number page : ℕ) (bytes : List ℕ) → Gives old new number bytes
    → IsSome (old page) → IsSome (new page)
still_live old new number page bytes g live =
    subst IsSome (sym (g.others page (λ is. gives_apart old new number page bytes g live (sym is)))) live
