-- What a change of an object has found when it begins to write: the chain of its identifier, its place there,
-- and the first page.
use Rattle.std.proofs.Common.{◌≡◌, ◌∙◌, ℕ, ◌<◌, None, Some, List, ap, arith, sym}
use Rattle.page_cache.specs.Cache.{IsHonest, IsLive, IsPageMap, pages}
use Rattle.page_cache.specs.Calls.{AsksUntil, asks_in_turn}
use Rattle.page_cache.specs.declared.cache.PageCache.{PageCache}
use Rattle.id_chains.specs.Pages.{IsInChain}
use Rattle.id_chains.specs.Table.{Bucket, ChainStands, IdChains, IdChainsStand, IsDirectory, bucket_in, chain_at}
use Rattle.id_chains.specs.Table.{class_of, link_at}
use Rattle.id_chains.proofs.BucketLemmas.{is_there, page_of_bucket}
use Rattle.id_chains.proofs.PlaceLemmas.{HoldsAt, first_apart, first_there, holder_apart, holder_there}
use Rattle.id_chains.proofs.StartLemmas.{starts}
use Rattle.id_chains.proofs.WalkLemmas.{Begins}

module _ {B A : Type 0} {m : _} where
  pub record Reached (dims directory id first holder place : ℕ) (old placed now : PageCache B A m)
      (t : IdChains) (stands : IdChainsStand dims (pages old) t) : Type 0 where
    pub asks : AsksUntil old now None
    pub map_is : IsPageMap now
    pub stay : (n : ℕ) → pages now n ≡ pages old n
    pub link : first ≡ link_at (class_of id) stands.directory
    pub begin : Begins dims (pages old) first (chain_at t (class_of id))
    pub honest : IsHonest placed
    pub reads : bucket_in dims (pages placed first) ≡ Some begin.content
    pub live : IsLive now first
    pub links : pages now directory ≡ Some stands.directory
    pub directory_live : IsLive now directory
    pub apart : ¬ (directory ≡ first)
    pub found : IsInChain id (chain_at t (class_of id)) holder place
    pub held : HoldsAt dims (pages old) holder place
    pub holder_live : IsLive now holder
    pub holder_apart_is : ¬ (directory ≡ holder)

  -- after calls that only asked: for the first page, for the place, and others
  pub reached : (dims directory id first holder place : ℕ) (old read placed now : PageCache B A m)
      → AsksUntil old read None
      → (IsHonest old → (p : List ℕ) → pages old directory ≡ Some p → IsDirectory dims p
      → first ≡ link_at (class_of id) p)
      → AsksUntil read placed None
      → (IsHonest read → (chain : List Bucket) → ChainStands dims (pages read) first chain
      → IsInChain id chain holder place)
      → AsksUntil placed now None
      → IsPageMap old → (t : IdChains) → t.page ≡ directory → (stands : IdChainsStand dims (pages old) t)
      → Reached dims directory id first holder place old placed now t stands
  reached dims directory id first holder place old read placed now asked_link link asked_place found
      asked_further map t at stands =
      let small : class_of id < 1000 = omega arith in
      let s = starts dims directory (class_of id) first old read asked_link link map.honest small t at
      stands in
      let p = found s.honest (chain_at t (class_of id)) s.begins_now in
      let b = first_there dims (pages old) id (chain_at t (class_of id)) first holder place s.begins p in
      let h = holder_there dims (pages old) id (chain_at t (class_of id)) first holder place s.begins p in
      let asked = asks_in_turn old read placed None asked_link asked_place in
      let asks = asks_in_turn old placed now None asked asked_further in
      let links = asks.map.pages_stay map.honest directory ∙ ap (pages old) (sym at) ∙ stands.there in
      record {
        asks = asks;
        map_is = asks.map.sound.0 map;
        stay = asks.map.pages_stay map.honest;
        link = s.link;
        begin = b;
        honest = asked.gate.honest.0 map.honest;
        reads = ap (bucket_in dims) (asked.map.pages_stay map.honest first) ∙ b.there;
        live = page_of_bucket dims (pages now first) b.content
            (ap (bucket_in dims) (asks.map.pages_stay map.honest first) ∙ b.there);
        links = links;
        directory_live = is_there (pages now directory) stands.directory links;
        apart = λ is. first_apart dims (pages old) t (class_of id) first b stands small (at ∙ is);
        found = p;
        held = h;
        holder_live =
            page_of_bucket dims (pages now holder) h.content
            (ap (bucket_in dims) (asks.map.pages_stay map.honest holder) ∙ h.there);
        holder_apart_is =
            λ is. holder_apart dims (pages old) t (class_of id) id holder place p stands small (at ∙ is);
      }
