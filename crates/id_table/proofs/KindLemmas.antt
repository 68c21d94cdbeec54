-- The kind of a table by byte 0 of its first page.
use Rattle.std.proofs.Common.{◌≡◌, ◌∙◌, ℕ, List, Some, IsSome, refl, sym, ap, subst, arith}
use Rattle.block_bytes.specs.Numbers.{number_at}
use Rattle.node_page.specs.Standing.{PageMap}
use Rattle.id_page.specs.Layout.{fork_kind}
use Rattle.id_table.specs.Table.{IdTable, IdsStand, kind_of, page_of}
use Rattle.id_table.specs.Table.IdTable.{chained, treed}
use Rattle.id_table.specs.declared.kind.TableKind.TheVariants.{Chains, Tree}
use Rattle.id_table.proofs.TableLemmas.{begins_so, first_byte}

module _ (dims : ℕ) (m : PageMap) (t : IdTable) (page : ℕ) (bytes : List ℕ) (at : page_of t ≡ page)
    (stands : IdsStand dims m t) (there : m page ≡ Some bytes) where
  -- the bytes that are there are those of its first page
  byte_is : number_at 1 0 bytes ≡ first_byte t
  byte_is =
      let begins = begins_so dims m t stands in
      let same : Some begins.0 ≡ Some bytes = sym begins.1 ∙ ap m at ∙ there in
      let bytes_same : begins.0 ≡ bytes = cc in
      ap (number_at 1 0) (sym bytes_same) ∙ begins.2

  pub is_tree : number_at 1 0 bytes ≡ fork_kind → Tree ≡ kind_of t
  is_tree fork = case t refl byte_is
    where
      case : (s : IdTable) → s ≡ t → number_at 1 0 bytes ≡ first_byte t → Tree ≡ kind_of t
      case (chained s) is byte = absurd (let low : number_at 1 0 bytes ≡ 3 = byte ∙ ap first_byte (sym is) in
          omega (arith, low, fork))
      case (treed s) is byte = ap kind_of is

  pub is_chained : ¬ (number_at 1 0 bytes ≡ fork_kind) → Chains ≡ kind_of t
  is_chained other = case t refl byte_is
    where
      case : (s : IdTable) → s ≡ t → number_at 1 0 bytes ≡ first_byte t → Chains ≡ kind_of t
      case (chained s) is byte = ap kind_of is
      case (treed s) is byte = absurd (other (byte ∙ ap first_byte (sym is)))

-- its first page is live
pub page_live : (dims : ℕ) (m : PageMap) (t : IdTable) (page : ℕ) → page_of t ≡ page → IdsStand dims m t
    → IsSome (m page)
page_live dims m t page at s =
    let begins = begins_so dims m t s in subst IsSome (sym (ap m (sym at) ∙ begins.1)) refl
