-- Where the chain of a remainder begins, as the directory of a table says.
use Rattle.std.proofs.Common.{◌≡◌, ◌∙◌, ℕ, ◌<◌, None, Some, List, sym, ap, subst}
use Rattle.page_cache.specs.Cache.{IsHonest, IsLive, pages}
use Rattle.page_cache.specs.Calls.{AsksUntil}
use Rattle.page_cache.specs.declared.cache.PageCache.{PageCache}
use Rattle.id_chains.specs.Table.{Bucket, ChainStands, IdChains, IdChainsStand, IsDirectory, bucket_in, chain_at}
use Rattle.id_chains.specs.Table.{link_at}
use Rattle.id_chains.proofs.BucketLemmas.{page_of_bucket}
use Rattle.id_chains.proofs.ReplaceLemmas.{chain_stays}
use Rattle.id_chains.proofs.WalkLemmas.{begins_at}

module _ {B A : Type 0} {m : _} where
  -- the chain begins at a page, before and after calls that only asked
  pub record Starts (dims : ℕ) (old now : PageCache B A m) (t : IdChains) (class first : ℕ)
      (stands : IdChainsStand dims (pages old) t) : Type 0 where
    pub link : first ≡ link_at class stands.directory
    pub begins : ChainStands dims (pages old) first (chain_at t class)
    pub honest : IsHonest now
    pub begins_now : ChainStands dims (pages now) first (chain_at t class)

  pub starts : (dims directory class first : ℕ) (old now : PageCache B A m) → AsksUntil old now None
      → (IsHonest old → (page : List ℕ) → pages old directory ≡ Some page → IsDirectory dims page
      → first ≡ link_at class page)
      → IsHonest old → class < 1000 → (t : IdChains) → t.page ≡ directory
      → (stands : IdChainsStand dims (pages old) t) → Starts dims old now t class first stands
  starts dims directory class first old now asks link honest small t at stands =
      let is = link honest stands.directory (ap (pages old) (sym at) ∙ stands.there) stands.spelled in
      let begins =
      subst (λ n. ChainStands dims (pages old) n (chain_at t class)) (sym is)
      (stands.chains class small) in
      record {
        link = is;
        begins = begins;
        honest = asks.gate.honest.0 honest;
        begins_now =
            chain_stays dims (pages old) (pages now) first (chain_at t class)
            (λ n here. asks.map.pages_stay honest n) begins;
      }

  -- its first page stays live while calls only ask
  pub first_is_live : (dims first : ℕ) (chain : List Bucket) (old now : PageCache B A m)
      → AsksUntil old now None → IsHonest old → ChainStands dims (pages old) first chain → ¬ (first ≡ 0)
      → IsLive now first
  first_is_live dims first chain old now asks honest begins some =
      let b = begins_at dims (pages old) first chain begins some in
      page_of_bucket dims (pages now first) b.content
      (ap (bucket_in dims) (asks.map.pages_stay honest first) ∙ b.there)
