-- A chain that lost an object, and the table without it.
use Rattle.std.proofs.Common.{◌≡◌, ◌∙◌, ℕ, zero, suc, ◌+◌, ◌-◌, ◌<◌, ◌≤◌, All, drop, take, get_or, set, cond}
use Rattle.std.proofs.Common.{eqb, Option, Some, None, List, [], ◌∷◌, ◌++◌, length, refl, sym, ap, subst, inl}
use Rattle.std.proofs.Common.{inr, ⊎_elim, arith}
use Rattle.std.proofs.lemmas.Bool.{cases_eq, cases_lt}
use Rattle.std.proofs.lemmas.Cmp.{nat_cmp_total}
use Rattle.std.proofs.lemmas.List.{append_assoc, get_or-take, length-set, length-take-le}
use Rattle.std.proofs.lemmas.List.Concat.{flat_map-append}
use Rattle.std.proofs.lemmas.List.Elements.{All-tail}
use Rattle.std.specs.FinMap as map
use Rattle.std.specs.FinMap.{get-remove, nat_cmp-IsAntisymmetric, same_map}
use Rattle.bucket_page.specs.Layout.{BucketContent, popped, replaced, Entry}
use Rattle.page_file.specs.Pages.{SameBut}
use Rattle.bucket_page.proofs.Reading.{count_of_bucket, spells}
use Rattle.node_page.specs.Standing.{PageMap}
use Rattle.id_chains.specs.Changes.{Removes}
use Rattle.id_chains.specs.Pages.{HasAt, IsInChain, Shrinks, Shortens, Unlinks}
use Rattle.id_words.specs.Objects.{kept_in, times_in}
use Rattle.id_chains.specs.Table.{Bucket, ChainStands, IdChains, IdChainsStand, IsFilled, bucket_in}
use Rattle.id_chains.specs.Table.{chain_at, class_of, entries_in, link_at, objects_of, occurs_in_chain}
use Rattle.id_chains.proofs.BucketLemmas.{some_object}
use Rattle.id_chains.proofs.HolderLemmas.{PutsAt, full_changed, puts_in_chain, regroup}
use Rattle.id_chains.proofs.PlaceLemmas.{here_at, holder_there, occurs-append}
use Rattle.id_chains.proofs.RemoveLemmas.{Takes, split_last, split_set, taken_box, taken_placed, taken_single}
use Rattle.id_chains.proofs.ReplaceLemmas.{Replaces, chain_stays, found_with, moves_with, stands_with}
use Rattle.id_chains.proofs.ReplaceLemmas.{with_chain}
use Rattle.id_words.proofs.ObjectLemmas.{not_there, occurs_here, same_key}
use Rattle.id_chains.proofs.TableLemmas.{chain_in_table}

is_full : Bucket → Type 0
is_full b = length b.entries ≡ 100

-- the table with a chain that lost an object
pub removes : (dims : ℕ) (old new : PageMap) (t : IdChains) (id : ℕ) (chain : List Bucket)
    → (stands : IdChainsStand dims old t) → Replaces dims old new t stands.directory (class_of id) chain
    → ((q : ℕ)
    → kept_in q (entries_in chain) ≡ cond (eqb id q) None
    (kept_in q (entries_in (chain_at t (class_of id))))) → Removes dims old new t id
removes dims old new t id chain stands r less =
    let small : class_of id < 1000 = omega arith in
    let after = stands_with dims old new t (class_of id) chain small stands r in
    record {
      table = with_chain t (class_of id) chain;
      page = refl;
      stands = after;
      objects =
          same_map nat_cmp_total nat_cmp-IsAntisymmetric (objects_of (with_chain t (class_of id) chain))
          (map.remove (objects_of t) id) (λ q.
          found_with dims old new t id chain None stands after less q
          ∙ ap (λ b. cond b None (map.get (objects_of t) q)) (sym (same_key q id))
          ∙ sym (get-remove nat_cmp_total (objects_of t) id q));
      moves = moves_with dims old new t (class_of id) chain small stands r;
    }

-- A chain whose first bucket is to lose its last object: the buckets after it are on the same pages, and
-- stand in the map between.
pub record Shrunk (dims : ℕ) (old mid : PageMap) (t : IdChains) (class first : ℕ) (c : BucketContent) : Type
    0 where
  pub head : Bucket
  pub tail : List Bucket
  pub tail_now : List Bucket
  pub is : chain_at t class ≡ head ∷ tail
  pub page : head.page ≡ first
  pub low : 2 < first
  pub next : ChainStands dims mid c.next tail_now
  pub same_pages : (n : ℕ) → occurs_in_chain n tail_now ≡ occurs_in_chain n tail
  pub outside : (n : ℕ) → ¬ (n ≡ first) → occurs_in_chain n tail ≡ 0 → mid n ≡ old n

module _ (dims : ℕ) (old mid new : PageMap) (t : IdChains) (class first : ℕ) (c : BucketContent)
    (stands : IdChainsStand dims old t) (small : class < 1000) (link : first ≡ link_at class stands.directory)
    (s : Shrunk dims old mid t class first c) where
  within : class < length t.chains
  within = omega (arith, small, stands.whole)

  counts : (n : ℕ)
      → occurs_in_chain n (chain_at t class) ≡ (cond (eqb first n) 1 0) + occurs_in_chain n s.tail
  counts n = ap (occurs_in_chain n) s.is
      ∙ ap (λ (k : ℕ). (cond (eqb k n) 1 0) + occurs_in_chain n s.tail) s.page

  few : (n : ℕ) → (cond (eqb t.page n) 1 0) + ((cond (eqb first n) 1 0) + occurs_in_chain n s.tail) ≤ 1
  few n = omega (arith, chain_in_table n class t within, counts n, stands.once n)

  off_first : (n : ℕ) → 0 < occurs_in_chain n s.tail → ¬ (n ≡ first)
  off_first n here is = let one : ◌≡◌ {A = ℕ} (cond (eqb first n) 1 0) 1 =
      ap (λ k. cond (eqb first k) 1 0) is ∙ occurs_here first in omega (arith, one, here, few n)

  off_directory : (n : ℕ) → 0 < occurs_in_chain n s.tail → ¬ (n ≡ t.page)
  off_directory n here is = let one : ◌≡◌ {A = ℕ} (cond (eqb t.page n) 1 0) 1 =
      ap (λ k. cond (eqb t.page k) 1 0) is ∙ occurs_here t.page in omega (arith, one, here, few n)

  directory_apart : ¬ (t.page ≡ first)
  directory_apart is = let one : ◌≡◌ {A = ℕ} (cond (eqb first t.page) 1 0) 1 =
      ap (λ k. cond (eqb first k) 1 0) is ∙ occurs_here first in
      omega (arith, one, occurs_here t.page, few t.page)

  directory_kept : mid t.page ≡ Some stands.directory
  directory_kept = s.outside t.page directory_apart (omega (arith, occurs_here t.page, few t.page))
      ∙ stands.there

  pub shortened : Shortens dims mid new first c
      → IsFilled class (record { page = first; entries = (popped c).entries } ∷ s.tail_now)
      → Replaces dims old new t stands.directory class
      (record { page = first; entries = (popped c).entries } ∷ s.tail_now)
  shortened less filled = record {
    directory = stands.directory;
    there = less.others t.page directory_apart ∙ directory_kept;
    spelled = stands.spelled;
    first = subst
        (λ n. ChainStands dims new n (record { page = first; entries = (popped c).entries } ∷ s.tail_now))
        link (
          refl,
          s.low,
          c.next,
          less.bucket,
          chain_stays dims mid new c.next s.tail_now
              (λ n here. less.others n (off_first n (omega (arith, here, s.same_pages n)))) s.next,
        );
    links = λ other differ. refl;
    filled = filled;
    others = λ n off gone none.
        let off_first : ¬ (n ≡ first) = λ is. let one : ◌≡◌ {A = ℕ} (cond (eqb first n) 1 0) 1 =
        ap (λ k. cond (eqb first k) 1 0) is ∙ occurs_here first in omega (arith, one, none) in
        less.others n off_first ∙ s.outside n off_first (omega (arith, gone, counts n));
    came = λ n gone some. absurd (omega (arith, gone, some, counts n, s.same_pages n));
    went = λ n some none. absurd (omega (arith, some, none, counts n, s.same_pages n));
    once = λ n. omega (arith, few n, s.same_pages n);
  }

  pub unlinked : Unlinks mid new t.page class first c stands.directory → IsFilled class s.tail_now
      → Replaces dims old new t stands.directory class s.tail_now
  unlinked less filled = record {
    directory = less.after;
    there = less.there;
    spelled =
        record {
          kind = less.link.kind ∙ stands.spelled.kind;
          dims_is = less.link.dims_is ∙ stands.spelled.dims_is;
        };
    first = subst (λ n. ChainStands dims new n s.tail_now) (sym less.link.link)
        (chain_stays dims mid new c.next s.tail_now
        (λ n here. less.others n (off_first n (omega (arith, here, s.same_pages n)))
        (off_directory n (omega (arith, here, s.same_pages n)))) s.next);
    links = less.link.others;
    filled = filled;
    others = λ n off gone none.
        let off_first : ¬ (n ≡ first) = λ is. let one : ◌≡◌ {A = ℕ} (cond (eqb first n) 1 0) 1 =
        ap (λ k. cond (eqb first k) 1 0) is ∙ occurs_here first in omega (arith, one, gone, counts n) in
        less.others n off_first off ∙ s.outside n off_first (omega (arith, gone, counts n));
    came = λ n gone some. absurd (omega (arith, gone, some, counts n, s.same_pages n));
    went = λ n some none. ⊎_elim
        (λ (is : first ≡ n). ap new (sym is) ∙ less.gone)
        (λ (other : ¬ (first ≡ n)). let no = not_there first n other in
        absurd (omega (arith, no, some, none, counts n, s.same_pages n)))
        (cases_eq first n);
    once = λ n. omega (arith, few n, s.same_pages n);
  }

take_none : {X : Type 0} (n : ℕ) (es : List X) → n ≡ 0 → take n es ≡ []
take_none n [] is = ap (λ k. take k []) is
take_none n (e ∷ es) is = ap (λ k. take k (e ∷ es)) is

full_after : (bs : List Bucket) → All (λ (b : Bucket). length b.entries ≡ 100) bs
    → All (λ (b : Bucket). length b.entries ≡ 100) (drop 1 bs)
full_after [] full = full
full_after (b ∷ bs) full = All-tail (λ (b : Bucket). length b.entries ≡ 100) b bs full

-- the table without the object, from what the chain holds then
pub removes_by : (dims : ℕ) (old mid new : PageMap) (t : IdChains) (id first : ℕ) (c : BucketContent)
    (x : Entry) (front : List Entry) → (stands : IdChainsStand dims old t)
    → first ≡ link_at (class_of id) stands.directory
    → (s : Shrunk dims old mid t (class_of id) first c)
    → Shrinks dims mid new t.page (class_of id) first c stands.directory → s.head.entries ≡ front ++ x ∷ []
    → Takes id x (front ++ entries_in s.tail) ((popped c).entries ++ entries_in s.tail_now)
    → All (λ (b : Bucket). length b.entries ≡ 100) s.tail_now → Removes dims old new t id
removes_by dims old mid new t id first c x front stands link s shrinks last takes full =
    let small : class_of id < 1000 = omega arith in
    let rest = entries_in s.tail in
    let now = (popped c).entries ++ entries_in s.tail_now in
    let all_is : entries_in (chain_at t (class_of id)) ≡ front ++ x ∷ rest = ap entries_in s.is
    ∙ ap (λ (es : List Entry). es ++ rest) last ∙ append_assoc front (x ∷ []) rest in
    let filled = stands.filled (class_of id) small in
    let single : (i : ℕ)
    → times_in i (front ++ x ∷ rest) ≤ 1 =
    λ i. subst (λ (es : List Entry). times_in i es ≤ 1) all_is (filled.single i) in
    let placed : All (λ (object : Entry). class_of object.0 ≡ class_of id) now =
    taken_placed id x front rest now single (λ (object : Entry). class_of object.0 ≡ class_of id)
    (subst (All (λ (object : Entry). class_of object.0 ≡ class_of id)) all_is filled.placed) takes in
    let once : (i : ℕ) → times_in i now ≤ 1 = taken_single id x front rest now single takes in
    let found : (q : ℕ)
    → kept_in q now ≡ cond (eqb id q) None (kept_in q (entries_in (chain_at t (class_of id)))) =
    λ q. taken_box id x front rest now single takes q
    ∙ ap (λ (es : List Entry). cond (eqb id q) None (kept_in q es)) (sym all_is) in
    ⊎_elim
    (λ (less : Shortens dims mid new first c).
    removes dims old new t id (record { page = first; entries = (popped c).entries } ∷ s.tail_now) stands
    (shortened dims old mid new t (class_of id) first c stands small link s less
    (record { full = full; placed = placed; single = once })) found)
    (λ (less : Unlinks mid new t.page (class_of id) first c stands.directory).
    let none : (popped c).entries ≡ [] =
    take_none (length c.entries - 1) c.entries (omega (arith, less.only)) in
    let now_is : now ≡ entries_in s.tail_now = ap (λ (es : List Entry). es ++ entries_in s.tail_now) none in
    removes dims old new t id s.tail_now stands
    (unlinked dims old mid new t (class_of id) first c stands small link s less (record {
      full = full_after s.tail_now full;
      placed = subst (All (λ (object : Entry). class_of object.0 ≡ class_of id)) now_is placed;
      single = λ i. subst (λ (es : List Entry). times_in i es ≤ 1) now_is (once i);
    })) (λ q. ap (kept_in q) (sym now_is) ∙ found q))
    shrinks

-- ---- where the object is

take_set : (m : ℕ) (es : List Entry) (place : ℕ) (x : Entry)
    → take m (set es place x) ≡ set (take m es) place x
take_set zero [] place x = refl
take_set zero (e ∷ es) zero x = refl
take_set zero (e ∷ es) (suc p) x = refl
take_set (suc m) [] place x = refl
take_set (suc m) (e ∷ es) zero x = refl
take_set (suc m) (e ∷ es) (suc p) x = ap (λ l. e ∷ l) (take_set m es p x)

set_beyond : (es : List Entry) (place : ℕ) (x : Entry) → length es ≤ place → set es place x ≡ es
set_beyond [] place x le = refl
set_beyond (e ∷ es) zero x le = absurd (omega (arith, le))
set_beyond (e ∷ es) (suc p) x le = ap (λ l. e ∷ l) (set_beyond es p x (omega (arith, le)))

-- the last object of the first page taken for one of that page
takes_there : (id place : ℕ) (x : Entry) (es rest : List Entry) → HasAt id es place
    → x ≡ get_or es (length es - 1) some_object
    → Takes id x (take (length es - 1) es ++ rest)
    (take (length (set es place x) - 1) (set es place x) ++ rest)
takes_there id place x es rest has is =
    let front = take (length es - 1) es in
    let size : length front ≡ length es - 1 = length-take-le (length es - 1) es (omega arith) in
    let now : take (length (set es place x) - 1) (set es place x) ≡ set front place x =
    ap (λ n. take (n - 1) (set es place x)) (length-set es place x)
    ∙ take_set (length es - 1) es place x in
    ⊎_elim
    (λ (before : place < length es - 1).
    let at = split_set front place x some_object (omega (arith, size, before)) in
    let A = take place front in
    let B = drop (suc place) front in
    let y = get_or front place some_object in
    inl (record {
      before = A;
      object = y;
      after = B ++ rest;
      was = ap (λ (l : List Entry). l ++ rest) at.0 ∙ append_assoc A (y ∷ B) rest;
      id_is = ap (λ (o : Entry). o.0) (get_or-take (length es - 1) es place some_object before)
          ∙ has.id_is some_object;
      is = ap (λ (l : List Entry). l ++ rest) (now ∙ at.1) ∙ append_assoc A (x ∷ B) rest;
    }))
    (λ (last : length es - 1 ≤ place).
    let here : place ≡ length es - 1 = omega (arith, last, has.within) in
    inr (
      ap (λ (o : Entry). o.0) (is ∙ ap (λ k. get_or es k some_object) (sym here)) ∙ has.id_is some_object,
      ap (λ (l : List Entry). l ++ rest) (now ∙ set_beyond front place x (omega (arith, size, last))),
    ))
    (cases_lt place (length es - 1))

removes_from_first : (dims : ℕ) (old mid new : PageMap) (t : IdChains) (id first place : ℕ)
    (c : BucketContent) (x : Entry) → (stands : IdChainsStand dims old t)
    → first ≡ link_at (class_of id) stands.directory
    → IsInChain id (chain_at t (class_of id)) first place → bucket_in dims (old first) ≡ Some c
    → x ≡ get_or c.entries (length c.entries - 1) some_object → SameBut first old mid
    → Shrinks dims mid new t.page (class_of id) first (replaced c place x) stands.directory
    → Removes dims old new t id
removes_from_first dims old mid new t id first place c x stands link p there last same shrinks =
    let small : class_of id < 1000 = omega arith in
    go p.before p.is
    (subst (λ n. ChainStands dims old n (chain_at t (class_of id))) (sym link)
    (stands.chains (class_of id) small))
  where
    off_first : (n : ℕ) → 0 < occurs_in_chain n p.after → chain_at t (class_of id) ≡ p.bucket ∷ p.after
        → ¬ (n ≡ first)
    off_first n here is at_first =
        let one = here_at p.bucket.page n (p.page_is ∙ sym at_first) in
        let small : class_of id < 1000 = omega arith in
        let part = chain_in_table n (class_of id) t (omega (arith, small, stands.whole)) in
        let counted = ap (occurs_in_chain n) is in
        omega (arith, one, here, part, counted, stands.once n)

    go : (before : List Bucket) → chain_at t (class_of id) ≡ before ++ p.bucket ∷ p.after
        → ChainStands dims old first (chain_at t (class_of id)) → Removes dims old new t id
    go [] is chain =
        let small : class_of id < 1000 = omega arith in
        let h = subst (ChainStands dims old first) is chain in
        let same_content : c ≡ record { next = h.2; entries = p.bucket.entries } = let was =
        ap (λ n. bucket_in dims (old n)) h.0 ∙ h.3 in cc (there, was) in
        let entries : p.bucket.entries ≡ c.entries =
        ap (λ (k : BucketContent). k.entries) (sym same_content) in
        let has : HasAt id c.entries place = subst (λ (es : List Entry). HasAt id es place) entries p.has in
        removes_by dims old mid new t id first (replaced c place x) x (take (length c.entries - 1) c.entries)
        stands link
        (record {
          head = p.bucket;
          tail = p.after;
          tail_now = p.after;
          is = is;
          page = p.page_is;
          low = h.1;
          next = chain_stays dims old mid c.next p.after (λ n here. same n (off_first n here is))
              (subst (λ n. ChainStands dims old n p.after)
              (ap (λ (k : BucketContent). k.next) (sym same_content)) h.4);
          same_pages = λ n. refl;
          outside = λ n off none. same n off;
        })
        shrinks
        (entries ∙ split_last c.entries some_object (omega (arith, has.within))
        ∙ ap (λ (o : Entry). take (length c.entries - 1) c.entries ++ o ∷ []) (sym last))
        (takes_there id place x c.entries (entries_in p.after) has last)
        (subst (λ (bs : List Bucket). All (λ (b : Bucket). length b.entries ≡ 100) (drop 1 bs)) is
        (stands.filled (class_of id) small).full)
    go (b ∷ bs) is chain =
        let small : class_of id < 1000 = omega arith in
        let h = subst (ChainStands dims old first) is chain in
        let one = here_at b.page first (sym h.0) in
        let two = here_at p.bucket.page first p.page_is in
        let part = chain_in_table first (class_of id) t (omega (arith, small, stands.whole)) in
        let counted = ap (occurs_in_chain first) is in
        let more = occurs-append first bs (p.bucket ∷ p.after) in
        absurd (omega (arith, one, two, part, counted, more, stands.once first))

removes_from_other : (dims : ℕ) (old mid new : PageMap) (t : IdChains) (id first holder place : ℕ)
    (c : BucketContent) (x : Entry) → (stands : IdChainsStand dims old t)
    → first ≡ link_at (class_of id) stands.directory
    → IsInChain id (chain_at t (class_of id)) holder place → ¬ (holder ≡ first)
    → bucket_in dims (old first) ≡ Some c → x ≡ get_or c.entries (length c.entries - 1) some_object
    → PutsAt dims old mid holder place x
    → Shrinks dims mid new t.page (class_of id) first c stands.directory → Removes dims old new t id
removes_from_other dims old mid new t id first holder place c x stands link p apart there last puts shrinks =
    let small : class_of id < 1000 = omega arith in
    go p.before p.is
    (subst (λ n. ChainStands dims old n (chain_at t (class_of id))) (sym link)
    (stands.chains (class_of id) small))
  where
    go : (before : List Bucket) → chain_at t (class_of id) ≡ before ++ p.bucket ∷ p.after
        → ChainStands dims old first (chain_at t (class_of id)) → Removes dims old new t id
    go [] is chain = let h = subst (ChainStands dims old first) is chain in
        absurd (apart (sym p.page_is ∙ sym h.0))
    go (f ∷ bs) is chain =
        let small : class_of id < 1000 = omega arith in
        let h = subst (ChainStands dims old first) is chain in
        let same_content : c ≡ record { next = h.2; entries = f.entries } = let was =
        ap (λ n. bucket_in dims (old n)) h.0 ∙ h.3 in cc (there, was) in
        let entries : f.entries ≡ c.entries = ap (λ (k : BucketContent). k.entries) (sym same_content) in
        let front = take (length c.entries - 1) c.entries in
        let es = set p.bucket.entries place x in
        let b_now : Bucket = record { page = p.bucket.page; entries = es } in
        let at = split_set p.bucket.entries place x some_object p.has.within in
        let A = take place p.bucket.entries in
        let B = drop (suc place) p.bucket.entries in
        let y = get_or p.bucket.entries place some_object in
        let G = entries_in bs in
        let E = entries_in p.after in
        let part : (n : ℕ)
        → occurs_in_chain n (f ∷ (bs ++ p.bucket ∷ p.after)) ≤ 1 = λ n. let in_table =
        chain_in_table n (class_of id) t (omega (arith, small, stands.whole)) in
        let counted = ap (occurs_in_chain n) is in omega (arith, in_table, counted, stands.once n) in
        let some : 0 < length c.entries = some_entries (old first) c there in
        removes_by dims old mid new t id first c x front stands link
        (record {
          head = f;
          tail = bs ++ p.bucket ∷ p.after;
          tail_now = bs ++ b_now ∷ p.after;
          is = is;
          page = sym h.0;
          low = h.1;
          next = subst (λ n. ChainStands dims mid n (bs ++ b_now ∷ p.after))
              (ap (λ (k : BucketContent). k.next) (sym same_content))
              (puts_in_chain dims old mid h.2 holder place x bs p.bucket p.after p.page_is p.has.within
              (λ n. omega (arith, part n)) puts h.4);
          same_pages = λ n. occurs-append n bs (b_now ∷ p.after)
              ∙ sym (occurs-append n bs (p.bucket ∷ p.after));
          outside =
              λ n off none. puts.others n
              (λ at_holder. let one = here_at p.bucket.page n (p.page_is ∙ sym at_holder) in
              let more = occurs-append n bs (p.bucket ∷ p.after) in omega (arith, one, more, none));
        })
        shrinks
        (entries ∙ split_last c.entries some_object some ∙ ap (λ (o : Entry). front ++ o ∷ []) (sym last))
        (inl (record {
          before = front ++ (G ++ A);
          object = y;
          after = B ++ E;
          was = ap (λ (l : List Entry). front ++ l)
              (flat_map-append (λ (b : Bucket). b.entries) bs (p.bucket ∷ p.after))
              ∙ ap (λ (l : List Entry). front ++ (G ++ (l ++ E))) at.0 ∙ regroup front G A B E y;
          id_is = p.has.id_is some_object;
          is = ap (λ (l : List Entry). front ++ l)
              (flat_map-append (λ (b : Bucket). b.entries) bs (b_now ∷ p.after))
              ∙ ap (λ (l : List Entry). front ++ (G ++ (l ++ E))) at.1 ∙ regroup front G A B E x;
        }))
        (full_changed bs p.bucket es p.after (length-set p.bucket.entries place x)
        (subst (λ (bs : List Bucket). All (λ (b : Bucket). length b.entries ≡ 100) (drop 1 bs)) is
        (stands.filled (class_of id) small).full))
      where
        some_entries : (page : Option (List ℕ)) (c : BucketContent) → bucket_in dims page ≡ Some c
            → 0 < length c.entries
        some_entries None c e = absurd (cc)
        some_entries (Some bytes) c e = let s = spells dims bytes c e in
            let n = count_of_bucket dims bytes c e in omega (arith, s.head.some, n)

-- ---- one or the other

module _ (dims : ℕ) (old mid : PageMap) (t : IdChains) (id first holder place : ℕ) (c : BucketContent)
    (x : Entry) (stands : IdChainsStand dims old t) (link : first ≡ link_at (class_of id) stands.directory)
    (p : IsInChain id (chain_at t (class_of id)) holder place) (there : bucket_in dims (old first) ≡ Some c)
    (puts : PutsAt dims old mid holder place x) where
  -- the place is one of the first bucket, if that has it
  in_first : holder ≡ first → place < length c.entries
  in_first is =
      let small : class_of id < 1000 = omega arith in
      let h = holder_there dims old id (chain_at t (class_of id)) first holder place
      (subst (λ n. ChainStands dims old n (chain_at t (class_of id))) (sym link)
      (stands.chains (class_of id) small)) p in
      let same : h.content ≡ c = let e = ap (λ n. bucket_in dims (old n)) is in cc (e, h.there, there) in
      subst (λ (k : BucketContent). place < length k.entries) same h.within

  -- what the first bucket has when the object has got its place
  pub first_now : (now : BucketContent) × (bucket_in dims (mid first) ≡ Some now)
  first_now = ⊎_elim
      (λ (is : holder ≡ first). (
        replaced c place x,
        ap (λ n. bucket_in dims (mid n)) (sym is)
            ∙ puts.written c (ap (λ n. bucket_in dims (old n)) is ∙ there) (in_first is),
      ))
      (λ (other : ¬ (holder ≡ first)).
      (c, ap (bucket_in dims) (puts.others first (λ is. other (sym is))) ∙ there))
      (cases_eq holder first)

  pub removes_from : (new : PageMap) → x ≡ get_or c.entries (length c.entries - 1) some_object
      → (now : BucketContent) → bucket_in dims (mid first) ≡ Some now
      → Shrinks dims mid new t.page (class_of id) first now stands.directory
      → Removes dims old new t id
  removes_from new last now there_now shrinks = ⊎_elim
      (λ (is : holder ≡ first).
      let written = ap (λ n. bucket_in dims (mid n)) (sym is)
      ∙ puts.written c (ap (λ n. bucket_in dims (old n)) is ∙ there) (in_first is) in
      let same : now ≡ replaced c place x = cc (there_now, written) in
      removes_from_first dims old mid new t id first place c x stands link
      (subst (λ n. IsInChain id (chain_at t (class_of id)) n place) is p) there last
      (subst (λ n. SameBut n old mid) is puts.others)
      (subst (λ (k : BucketContent). Shrinks dims mid new t.page (class_of id) first k stands.directory)
      same shrinks))
      (λ (other : ¬ (holder ≡ first)).
      let kept = ap (bucket_in dims) (puts.others first (λ is. other (sym is))) ∙ there in
      let same : now ≡ c = cc (there_now, kept) in
      removes_from_other dims old mid new t id first holder place c x stands link p other there last puts
      (subst (λ (k : BucketContent). Shrinks dims mid new t.page (class_of id) first k stands.directory) same
      shrinks))
      (cases_eq holder first)
