-- Pages freed one after the other.
use Rattle.std.proofs.Common.{◌≡◌, ◌∙◌, ℕ, ◌+◌, ◌<◌, ◌≤◌, cond, eqb, Some, None, List, [], ◌∷◌, ◌++◌, length}
use Rattle.std.proofs.Common.{take, drop, sum_by, refl, sym, ap, subst, true, ⊎_elim, arith}
use Rattle.std.proofs.lemmas.Bool.{cases_eq}
use Rattle.std.proofs.lemmas.List.{append_assoc, take-append-drop}
use Rattle.std.proofs.lemmas.List.Sums.{sum_by-append, sum_by_more}
use Rattle.bucket_page.specs.Layout.{BucketContent}
use Rattle.page_cache.specs.Cache.{Grows, IsHonest, IsLive, IsPageMap, given, next_of, pages, touched_of}
use Rattle.page_cache.specs.Calls.{ChangesUntil, changes_in_turn}
use Rattle.page_cache.specs.declared.cache.PageCache.{PageCache}
use Rattle.page_file.specs.Pages.{SameBut}
use Rattle.node_page.specs.Parts.{Moves, Part, no_page, one_page}
use Rattle.node_page.specs.Standing.{PageMap}
use Rattle.node_page.proofs.PartLemmas.{none_or_some}
use Rattle.id_chains.specs.Pages.{Frees}
use Rattle.id_chains.specs.Table.{Bucket, ChainStands, IdChains, IdChainsStand, bucket_in, chain_at, link_at}
use Rattle.id_chains.specs.Table.{occurs_in_chain, occurs_in_ids, part_of}
use Rattle.id_chains.specs.Walks.{IsAlong, MeetsAlong, NamesNext, NamesNoMore}
use Rattle.id_chains.proofs.BucketLemmas.{is_there, page_of_bucket}
use Rattle.id_chains.proofs.GetLemmas.{chain_is_short}
use Rattle.id_chains.proofs.MeetLemmas.{along_on, freed_names_no_more, meets_here, no_more_in_turn}
use Rattle.id_chains.proofs.PlaceLemmas.{here_at, occurs-append}
use Rattle.id_chains.proofs.ReplaceLemmas.{chain_stays}
use Rattle.id_words.proofs.ObjectLemmas.{not_there}
use Rattle.id_chains.proofs.TableLemmas.{chain_in_table}
use Rattle.id_chains.proofs.WalkLemmas.{Begins, begins_at}

pub frees_moves : (old new : PageMap) (part : Part) → Frees old new part → Moves old new part no_page
frees_moves old new part f = record {
  outside = λ n p q. f.others n p;
  came = λ n p q. absurd (omega (arith, q));
  went = λ n p q. f.gone n p;
  live = λ n p. absurd (omega (arith, p));
  once = λ n. omega arith;
}

pub frees_in_turn : (old mid new : PageMap) (a b c : Part) → ((n : ℕ) → c n ≡ a n + b n) → Frees old mid a
    → Frees mid new b → Frees old new c
frees_in_turn old mid new a b c sum f g = record {
  gone = λ n p. ⊎_elim
      (λ (none : b n ≡ 0). g.others n none ∙ f.gone n (omega (arith, p, none, sum n)))
      (λ (some : 0 < b n). g.gone n some)
      (none_or_some (b n));
  others = λ n p. g.others n (omega (arith, p, sum n)) ∙ f.others n (omega (arith, p, sum n));
}

-- one page freed
pub frees_one : (old new : PageMap) (page : ℕ) → new page ≡ None → SameBut page old new
    → Frees old new (one_page page)
frees_one old new page gone others = record {
  gone = λ n p. ⊎_elim (λ (is : page ≡ n). ap new (sym is) ∙ gone)
      (λ (other : ¬ (page ≡ n)). let none = not_there page n other in absurd (omega (arith, p, none)))
      (cases_eq page n);
  others = λ n p. others n (λ is. let one = here_at page n (sym is) in omega (arith, p, one));
}

frees_same : (old new : PageMap) (a b : Part) → ((n : ℕ) → b n ≡ a n) → Frees old new a → Frees old new b
frees_same old new a b same f = record {
  gone = λ n p. f.gone n (omega (arith, p, same n));
  others = λ n p. f.others n (omega (arith, p, same n));
}

frees_none : (pages : PageMap) (part : Part) → ((n : ℕ) → part n ≡ 0) → Frees pages pages part
frees_none pages part none = record { gone = λ n p. absurd (omega (arith, p, none n)); others = λ n p. refl }

-- ---- a chain

abbrev pub chain_part : List Bucket → Part
chain_part chain n = occurs_in_chain n chain

module _ {B A : Type 0} {m : _} where
  -- the first buckets of a chain are freed, and the rest of it stands from a page on
  pub record Freed (dims : ℕ) (old now : PageCache B A m) (chain : List Bucket) (freed number : ℕ) : Type
      0 where
    pub before : List Bucket
    pub rest : List Bucket
    pub is : chain ≡ before ++ rest
    pub stands : ChainStands dims (pages old) number rest
    pub map : IsPageMap now
    pub frees : Frees (pages old) (pages now) (chain_part before)
    pub long : length chain ≡ freed + length rest

  -- what a change leaves of the pages that it walks along: a sound map, and no page that names one more
  abbrev pub Keeps : ℕ → PageCache B A m → PageCache B A m → Type 0
  Keeps dims old now = IsPageMap now × NamesNoMore dims (given old) (given now)

  pub record Freeing (dims first : ℕ) (old now : PageCache B A m) (freed before number : ℕ) : Type 0 where
    pub changes : ChangesUntil old now None
    pub kept : IsPageMap old → Keeps dims old now
    pub along : IsPageMap old → IsAlong dims (given old) first number
    pub met : IsPageMap old → 0 < freed → MeetsAlong dims (given old) first before
    pub next : next_of now ≡ next_of old
    pub grows : Grows 0 old now
    pub left : IsPageMap old → (chain : List Bucket) → ChainStands dims (pages old) first chain
        → ((n : ℕ) → occurs_in_chain n chain ≤ 1) → Freed dims old now chain freed number

  pub freeing_begins : (dims first : ℕ) (cache : PageCache B A m) → ChangesUntil cache cache None
      → Freeing dims first cache cache 0 first first
  freeing_begins dims first cache changes = record {
    changes = changes;
    kept = λ map. (map, λ page next names. names);
    along = λ map. ([], refl);
    met = λ map some. absurd (omega (arith, some));
    next = refl;
    grows = omega arith;
    left = λ map chain stands once.
        record {
          before = [];
          rest = chain;
          is = refl;
          stands = stands;
          map = map;
          frees = frees_none (pages cache) (chain_part []) (λ n. refl);
          long = omega arith;
        };
  }

  module _ {dims first : ℕ} {old now : PageCache B A m} {freed before number : ℕ}
      (so_far : Freeing dims first old now freed before number) where
    -- the walk has met the page that it is at
    pub freeing_meets : ¬ (number ≡ 0) → IsPageMap old → (n : ℕ) → n ≡ number
        → MeetsAlong dims (given old) first n
    freeing_meets some map n is = meets_here dims (given old) first number n some (so_far.along map) is

    -- the bucket to be freed, which is there as it was
    pub bucket_left : ¬ (number ≡ 0) → (map : IsPageMap old) → (chain : List Bucket)
        → (stands : ChainStands dims (pages old) first chain) → (once : (n : ℕ) → occurs_in_chain n chain ≤ 1)
        → Begins dims (pages old) number (so_far.left map chain stands once).rest
    bucket_left some map chain stands once = let f = so_far.left map chain stands once in
        begins_at dims (pages old) number f.rest f.stands some

    pub there_left : (some : ¬ (number ≡ 0)) → (map : IsPageMap old) → (chain : List Bucket)
        → (stands : ChainStands dims (pages old) first chain) → (once : (n : ℕ) → occurs_in_chain n chain ≤ 1)
        → bucket_in dims (pages now number) ≡ Some ((bucket_left some map chain stands once).content)
    there_left some map chain stands once =
        let f = so_far.left map chain stands once in
        let b = bucket_left some map chain stands once in
        let counted = ap (occurs_in_chain number) f.is in
        let sum = occurs-append number f.before f.rest in
        let rest = ap (occurs_in_chain number) b.is in
        let one = here_at b.bucket.page number b.page in
        ap (bucket_in dims) (f.frees.others number (omega (arith, counted, sum, rest, one, once number)))
        ∙ b.there

    pub all_freed : number ≡ 0 → (map : IsPageMap old) → (chain : List Bucket)
        → (stands : ChainStands dims (pages old) first chain) → (once : (n : ℕ) → occurs_in_chain n chain ≤ 1)
        → Frees (pages old) (pages now) (chain_part chain)
    all_freed none map chain stands once = let f = so_far.left map chain stands once in
        ended f.before f.rest f.stands f.is f.frees
      where
        ended : (before rest : List Bucket) → ChainStands dims (pages old) number rest
            → chain ≡ before ++ rest → Frees (pages old) (pages now) (chain_part before)
            → Frees (pages old) (pages now) (chain_part chain)
        ended before [] h is frees =
            frees_same (pages old) (pages now) (chain_part before) (chain_part chain)
            (λ n. let counted = ap (occurs_in_chain n) is in
            omega (arith, counted, occurs-append n before [])) frees
        ended before (b ∷ bs) h is frees = absurd (omega (arith, none, h.1))

    pub never_so_long : next_of old ≤ freed → (map : IsPageMap old) → (chain : List Bucket)
        → (stands : ChainStands dims (pages old) first chain) → (once : (n : ℕ) → occurs_in_chain n chain ≤ 1)
        → length chain < next_of old → ⊥
    never_so_long many map chain stands once short = let f = so_far.left map chain stands once in
        omega (arith, f.long, many, short)

    pub frees_on : (next_number : ℕ) (new : PageCache B A m) → ¬ (number ≡ 0) → ChangesUntil now new None
        → next_of new ≡ next_of now → Grows 0 now new
        → (IsPageMap now → (c : BucketContent) → bucket_in dims (pages now number) ≡ Some c
        → next_number ≡ c.next)
        → (IsPageMap now → IsLive now number → pages new number ≡ None)
        → (IsPageMap now → IsLive now number → SameBut number (pages now) (pages new))
        → (IsPageMap now → IsLive now number → IsPageMap new)
        → (IsHonest now → NamesNext dims (given now number) next_number)
        → (IsPageMap now → Keeps dims now new)
        → Freeing dims first old new (freed + 1) number next_number
    frees_on next_number new some changes next grows reads gone others sound names kept = record {
      changes = changes_in_turn old now new None so_far.changes changes;
      kept = λ map.
          let k = so_far.kept map in
          let more = kept k.0 in
          (more.0, no_more_in_turn dims (given old) (given now) (given new) k.1 more.1);
      along = λ map.
          let k = so_far.kept map in
          along_on dims (given old) first number next_number (so_far.along map)
          (k.1 number next_number (names k.0.honest));
      met = λ map later. freeing_meets some map number refl;
      next = next ∙ so_far.next;
      grows = omega (arith, grows, so_far.grows);
      left = λ map chain stands once.
          let f = so_far.left map chain stands once in
          let b = bucket_left some map chain stands once in
          let there = there_left some map chain stands once in
          let live = page_of_bucket dims (pages now number) b.content there in
          record {
            before = f.before ++ b.bucket ∷ [];
            rest = b.behind;
            is = f.is ∙ ap (λ (bs : List Bucket). f.before ++ bs) b.is
                ∙ sym (append_assoc f.before (b.bucket ∷ []) b.behind);
            stands =
                subst (λ n. ChainStands dims (pages old) n b.behind) (sym (reads f.map b.content there))
                b.rest;
            map = sound f.map live;
            frees = frees_in_turn (pages old) (pages now) (pages new) (chain_part f.before) (one_page number)
                (chain_part (f.before ++ b.bucket ∷ []))
                (λ n. let sum = occurs-append n f.before (b.bucket ∷ []) in
                let same : ◌≡◌ {A = ℕ} (cond (eqb b.bucket.page n) 1 0) (cond (eqb number n) 1 0) =
                ap (λ (k : ℕ). cond (eqb k n) 1 0) b.page in omega (arith, sum, same))
                f.frees (frees_one (pages now) (pages new) number (gone f.map live) (others f.map live));
            long = let e = ap length b.is in omega (arith, f.long, e);
          };
    }

-- ---- all chains

-- the directory and the first chains
abbrev pub first_part : IdChains → ℕ → Part
first_part t class n = (cond (eqb t.page n) 1 0) + sum_by (occurs_in_chain n) (take class t.chains)

take_all : {X : Type 0} (xs : List X) (n : ℕ) → length xs ≡ n → take n xs ≡ xs
take_all xs n is = ap (λ k. take k xs) (sym is) ∙ whole xs
  where
    whole : {X : Type 0} (xs : List X) → take (length xs) xs ≡ xs
    whole [] = refl
    whole (x ∷ xs) = ap (λ l. x ∷ l) (whole xs)

-- one chain more
pub part_more : (t : IdChains) (class n : ℕ) → class < length t.chains
    → first_part t (class + 1) n ≡ first_part t class n + occurs_in_chain n (chain_at t class)
part_more t class n within = let more = sum_by_more (occurs_in_chain n) t.chains class [] within in
    omega (arith, more)

pub part_below : (t : IdChains) (class n : ℕ) → first_part t class n ≤ occurs_in_ids n t
part_below t class n =
    let parts = sum_by-append (occurs_in_chain n) (take class t.chains) (drop class t.chains) in
    let whole = ap (sum_by (occurs_in_chain n)) (take-append-drop class t.chains) in
    omega (arith, parts, whole)

pub part_whole : (t : IdChains) (class n : ℕ) → length t.chains ≡ class → part_of t n ≡ first_part t class n
part_whole t class n size =
    ap (λ (cs : List (List Bucket)). (cond (eqb t.page n) 1 0) + sum_by (occurs_in_chain n) cs)
    (sym (take_all t.chains class size))

module _ {B A : Type 0} {m : _} where
  pub record FreedAll (old now : PageCache B A m) (t : IdChains) (class : ℕ) : Type 0 where
    pub map : IsPageMap now
    pub frees : Frees (pages old) (pages now) (first_part t class)

  -- the directory and the chains before a remainder are freed
  pub record FreeingAll (dims directory : ℕ) (old now : PageCache B A m) (bytes : List ℕ) (class : ℕ) : Type
      0 where
    pub changes : ChangesUntil old now None
    pub touched : touched_of now ≡ true
    pub kept : IsPageMap old → IsLive old directory → Keeps dims old now
    pub next : next_of now ≡ next_of old
    pub grows : Grows 0 old now
    pub left : IsPageMap old → (t : IdChains) → t.page ≡ directory → IdChainsStand dims (pages old) t
        → pages old directory ≡ Some bytes → FreedAll old now t class

  pub all_begins : (dims directory : ℕ) (old now : PageCache B A m) (bytes : List ℕ)
      → ChangesUntil old now None → next_of now ≡ next_of old → Grows 0 old now
      → (IsPageMap old → IsLive old directory → pages now directory ≡ None)
      → (IsPageMap old → IsLive old directory → SameBut directory (pages old) (pages now))
      → (IsPageMap old → IsLive old directory → IsPageMap now)
      → (IsHonest old → SameBut directory (given old) (given now)) → touched_of now ≡ true
      → FreeingAll dims directory old now bytes 0
  all_begins dims directory old now bytes changes next grows gone others sound given_others touched = record {
    changes = changes;
    touched = touched;
    kept = λ map live. (
      sound map live,
      freed_names_no_more dims old now directory (sound map live) (gone map live) (given_others map.honest),
    );
    next = next;
    grows = grows;
    left = λ map t at stands there.
        let live = is_there (pages old directory) bytes there in
        record {
          map = sound map live;
          frees = frees_same (pages old) (pages now) (one_page directory) (first_part t 0)
              (λ n. let same : ◌≡◌ {A = ℕ} (cond (eqb t.page n) 1 0) (cond (eqb directory n) 1 0) =
              ap (λ (k : ℕ). cond (eqb k n) 1 0) at in omega (arith, same))
              (frees_one (pages old) (pages now) directory (gone map live) (others map live));
        };
  }

  module _ {dims directory : ℕ} {old now : PageCache B A m} {bytes : List ℕ} {class : ℕ}
      (so_far : FreeingAll dims directory old now bytes class) (small : class < 1000) where
    -- the next chain stands as it did
    pub chain_left : IsPageMap old → (t : IdChains) → t.page ≡ directory → IdChainsStand dims (pages old) t
        → pages old directory ≡ Some bytes
        → ChainStands dims (pages now) (link_at class bytes) (chain_at t class)
    chain_left map t at stands there =
        let f = so_far.left map t at stands there in
        let same_bytes : stands.directory ≡ bytes = let e = ap (pages old) at in
        cc (e, stands.there, there) in
        subst (λ (p : List ℕ). ChainStands dims (pages now) (link_at class p) (chain_at t class)) same_bytes
        (chain_stays dims (pages old) (pages now) (link_at class stands.directory) (chain_at t class)
        (λ n here. f.frees.others n
        (omega (
          arith,
          part_more t class n (omega (arith, small, stands.whole)),
          part_below t (class + 1) n,
          here,
          stands.once n,
        )))
        (stands.chains class small))

    pub chain_once : (t : IdChains) → IdChainsStand dims (pages old) t → (n : ℕ)
        → occurs_in_chain n (chain_at t class) ≤ 1
    chain_once t stands n = let part = chain_in_table n class t (omega (arith, small, stands.whole)) in
        omega (arith, part, stands.once n)

    pub chain_short_now : (t : IdChains) → IdChainsStand dims (pages old) t
        → length (chain_at t class) < next_of now
    chain_short_now t stands = omega (arith, chain_is_short dims old t class small stands, so_far.next)

    pub frees_all_on : (first : ℕ) (new : PageCache B A m) → first ≡ link_at class bytes
        → ChangesUntil now new None → next_of new ≡ next_of now → Grows 0 now new
        → (IsPageMap now → (chain : List Bucket) → ChainStands dims (pages now) first chain
        → ((n : ℕ) → occurs_in_chain n chain ≤ 1) → IsPageMap new)
        → (IsPageMap now → (chain : List Bucket) → ChainStands dims (pages now) first chain
        → ((n : ℕ) → occurs_in_chain n chain ≤ 1) → Frees (pages now) (pages new) (chain_part chain))
        → (IsPageMap now → Keeps dims now new)
        → FreeingAll dims directory old new bytes (class + 1)
    frees_all_on first new is changes next grows sound freed kept = record {
      changes = changes_in_turn old now new None so_far.changes changes;
      touched = changes.touched so_far.touched;
      kept = λ map live.
          let k = so_far.kept map live in
          let more = kept k.0 in
          (more.0, no_more_in_turn dims (given old) (given now) (given new) k.1 more.1);
      next = next ∙ so_far.next;
      grows = omega (arith, grows, so_far.grows);
      left = λ map t at stands there.
          let f = so_far.left map t at stands there in
          let chain =
          subst (λ n. ChainStands dims (pages now) n (chain_at t class)) (sym is)
          (chain_left map t at stands there) in
          record {
            map = sound f.map (chain_at t class) chain (chain_once t stands);
            frees = frees_in_turn (pages old) (pages now) (pages new) (first_part t class)
                (chain_part (chain_at t class)) (first_part t (class + 1))
                (λ n. part_more t class n (omega (arith, small, stands.whole))) f.frees
                (freed f.map (chain_at t class) chain (chain_once t stands));
          };
    }

  pub all_are_freed : (dims directory : ℕ) (old now : PageCache B A m) (bytes : List ℕ) (class : ℕ)
      → class ≡ 1000 → FreeingAll dims directory old now bytes class
      → IsPageMap old → (t : IdChains) → t.page ≡ directory → IdChainsStand dims (pages old) t
      → pages old directory ≡ Some bytes → Frees (pages old) (pages now) (part_of t)
  all_are_freed dims directory old now bytes class is so_far map t at stands there =
      frees_same (pages old) (pages now) (first_part t class) (part_of t)
      (λ n. part_whole t class n (stands.whole ∙ sym is)) (so_far.left map t at stands there).frees

-- pages that are equal stand for the table too
pub stands_same : (dims : ℕ) (old new : PageMap) (t : IdChains) → ((n : ℕ) → new n ≡ old n)
    → IdChainsStand dims old t → IdChainsStand dims new t
stands_same dims old new t same stands = record {
  directory = stands.directory;
  there = same t.page ∙ stands.there;
  low = stands.low;
  spelled = stands.spelled;
  whole = stands.whole;
  chains =
      λ class small. chain_stays dims old new (link_at class stands.directory) (chain_at t class)
      (λ n here. same n) (stands.chains class small);
  filled = stands.filled;
  once = stands.once;
}
