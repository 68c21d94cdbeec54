-- The first pages of chains where objects are added: one that is damaged stood there before.
use Rattle.std.proofs.Common.{◌≡◌, ◌∙◌, ◌⊎◌, ℕ, List, Option, Some, None, IsSome, ap, sym, subst, refl, arith}
use Rattle.std.proofs.Common.{⊎_elim, inl, inr, IfErr, Result, Ok, Err, ◌<◌, true, false}
use Rattle.std.proofs.lemmas.Bool.{cases_eq}
use Rattle.bucket_page.proofs.Reading.{no_head}
use Rattle.bucket_page.specs.Layout.{BucketContent, Entry, HasBucketHead}
use Rattle.page_file.specs.Fault.{IsOfDevice}
use Rattle.page_file.specs.Layout.{kind_of}
use Rattle.page_file.specs.declared.fault.Fault.{Fault}
use Rattle.page_file.specs.declared.fault.Fault.TheVariants as fault
use Rattle.page_file.specs.Pages.{SameBut}
use Rattle.page_cache.specs.Cache.{IsPageMap, given, pages, touched_of}
use Rattle.page_cache.specs.Calls.{AsksUntil}
use Rattle.page_cache.specs.Laws.{a_live_page_is_given, a_page_in_use_is_live}
use Rattle.page_cache.specs.declared.cache.PageCache.{PageCache}
use Rattle.node_page.proofs.DamageLemmas.{damaged_read}
use Rattle.id_chains.specs.Pages.{PutsBefore}
use Rattle.id_chains.specs.Table.{IsDirectory, bucket_in, link_at}
use Rattle.id_words.proofs.BreakLemmas.{no_damage}
use Rattle.id_words.proofs.WriteLemmas.{not_both}
use Rattle.id_words.specs.Damage.{MayBreakAt}
use Rattle.id_chains.specs.Walks.{BeginsChain, BeginsInTable, IsBucket, KeepsFirst, NamesFirst}
use Rattle.id_chains.specs.Walks.{NamesNext}

-- what is there is a bucket, or not
pub spells_one : (dims : ℕ) (page : Option (List ℕ)) (c : BucketContent) → bucket_in dims page ≡ Some c
    → IsBucket dims page
spells_one dims page c is = subst IsSome (sym is) refl

pub content_of_one : (dims : ℕ) (page : Option (List ℕ)) → IsBucket dims page
    → (c : BucketContent) × (bucket_in dims page ≡ Some c)
content_of_one dims page there = opened (bucket_in dims page) there
  where
    opened : (o : Option BucketContent) → IsSome o → (c : BucketContent) × (o ≡ Some c)
    opened None none = absurd (cc)
    opened (Some c) some = (c, refl)

none_there : {A : Type 0} (o : Option A) → o ≡ None → IsSome o → ⊥
none_there None is some = cc
none_there (Some x) is some = cc

-- a page of a directory spells no bucket
pub no_bucket : (dims : ℕ) (page : Option (List ℕ)) (bytes : List ℕ) → page ≡ Some bytes
    → IsDirectory dims bytes → IsBucket dims page → ⊥
no_bucket dims page bytes there spelled bucket =
    none_there (bucket_in dims page)
    (ap (bucket_in dims) there
    ∙ no_head dims bytes (λ (head : HasBucketHead dims bytes). omega (arith, head.kind, spelled.kind)))
    bucket

-- nor does it begin as one
apart_kinds : (dims : ℕ) (page : Option (List ℕ)) (class first next : ℕ) → NamesFirst dims page class first
    → NamesNext dims page next → ⊥
apart_kinds dims page class first next names head =
    let same : Some names.0 ≡ Some head.0 = sym names.1 ∙ head.1 in
    let is : names.0 ≡ head.0 = cc in
    let spelled = subst (IsDirectory dims) is names.2 in
    let begins = head.2 in
    omega (arith, begins.kind, spelled.kind)

-- a fault that names the first page alone, where that is no bucket
pub refused_at : {T : Type 0} (r : Result T Fault) (directory first : ℕ) (Bucket : ℕ → Type 0)
    → IfErr r (λ f. IsOfDevice f ⊎ (f ≡ fault.Damaged first)) → (Bucket first → IfErr r IsOfDevice)
    → IfErr r (λ f. (n : ℕ) → f ≡ fault.Damaged n → (n ≡ directory) ⊎ (¬ (Bucket n)))
refused_at (Ok x) directory first Bucket either spelled = tt
refused_at (Err f) directory first Bucket either spelled = λ n damaged.
    let is = damaged_read f first n either damaged in
    inr (λ (bucket : Bucket n). no_damage f n (spelled (subst Bucket is bucket)) damaged)

module _ {B A : Type 0} {m : _} where
  -- a directory is a live page of a sound map
  pub directory_there : (dims : ℕ) (cache : PageCache B A m) (page class first : ℕ) → IsPageMap cache
      → (names : NamesFirst dims (given cache page) class first) → pages cache page ≡ Some names.0
  directory_there dims cache page class first map names =
      a_page_in_use_is_live cache page names.0 map names.1
      (λ (free : kind_of names.0 ≡ 5). let spelled = names.2 in omega (arith, spelled.kind, free))

  pub nothing_added : (dims directory : ℕ) (cache : PageCache B A m) → IsPageMap cache
      → KeepsFirst dims directory cache cache
  nothing_added dims directory cache map = record {
    sound = map;
    first = λ class first names. inl names;
    buckets = λ n bucket. bucket;
  }

  pub kept_in_turn : (dims directory : ℕ) (old mid new : PageCache B A m)
      → KeepsFirst dims directory old mid → KeepsFirst dims directory mid new
      → KeepsFirst dims directory old new
  kept_in_turn dims directory old mid new a b = record {
    sound = b.sound;
    first = λ class first names. ⊎_elim
        (λ (named : NamesFirst dims (given mid directory) class first). ⊎_elim
        (λ (before : NamesFirst dims (given old directory) class first). inl before)
        (λ (bucket : IsBucket dims (pages mid first)). inr (b.buckets first bucket))
        (a.first class first named))
        (λ (bucket : IsBucket dims (pages new first)). inr bucket)
        (b.first class first names);
    buckets = λ n bucket. b.buckets n (a.buckets n bucket);
  }

  -- objects were put into the first page of a chain
  pub put_in_keeps : (dims directory class first next : ℕ) (old mid new : PageCache B A m)
      → AsksUntil old mid None → IsPageMap old → NamesFirst dims (given old directory) class first
      → NamesNext dims (given old first) next → IsPageMap new → SameBut first (pages mid) (pages new)
      → (IsBucket dims (pages old first) → IsBucket dims (pages new first))
      → KeepsFirst dims directory old new
  put_in_keeps dims directory class first next old mid new asks map names head sound others stays = record {
    sound = sound;
    first = λ other named now. ⊎_elim
        (λ (is : directory ≡ first).
        absurd (apart_kinds dims (given old directory) class first next names
        (subst (λ (k : ℕ). NamesNext dims (given old k) next) (sym is) head)))
        (λ (off : ¬ (directory ≡ first)). inl (
          now.0,
          a_live_page_is_given old directory now.0
              (sym (asks.map.pages_stay map.honest directory) ∙ sym (others directory off)
              ∙ directory_there dims new directory other named sound now),
          now.2,
          now.3,
        ))
        (cases_eq directory first);
    buckets = λ n bucket. ⊎_elim
        (λ (is : n ≡ first).
        subst (λ (k : ℕ). IsBucket dims (pages new k)) (sym is)
        (stays (subst (λ (k : ℕ). IsBucket dims (pages old k)) is bucket)))
        (λ (off : ¬ (n ≡ first)).
        subst (IsBucket dims) (sym (others n off ∙ asks.map.pages_stay map.honest n)) bucket)
        (cases_eq n first);
  }

  -- a new page was put before it
  pub put_before_keeps : (dims directory class first : ℕ) (old mid new : PageCache B A m)
      (objects : List Entry) (page : List ℕ) → AsksUntil old mid None → IsPageMap old
      → pages old directory ≡ Some page → IsDirectory dims page → IsPageMap new
      → PutsBefore dims (pages mid) (pages new) directory class first objects page
      → KeepsFirst dims directory old new
  put_before_keeps dims directory class first old mid new objects page asks map there spelled sound put =
      let stay = asks.map.pages_stay map.honest in
      record {
        sound = sound;
        first = λ other named now.
            let same : Some now.0 ≡ Some put.after =
            sym now.1 ∙ a_live_page_is_given new directory put.after put.there in
            let is : now.0 ≡ put.after = cc in
            let link : link_at other put.after ≡ named = ap (link_at other) (sym is) ∙ now.3 in
            ⊎_elim
            (λ (at : other ≡ class).
            let number : named ≡ put.number =
            sym link ∙ ap (λ (k : ℕ). link_at k put.after) at ∙ put.link.link in
            inr (subst (λ (k : ℕ). IsBucket dims (pages new k)) (sym number)
            (spells_one dims (pages new put.number) _ put.bucket)))
            (λ (off : ¬ (other ≡ class)). inl (
              page,
              a_live_page_is_given old directory page there,
              spelled,
              sym (put.link.others other off) ∙ link,
            ))
            (cases_eq other class);
        buckets = λ n bucket. ⊎_elim
            (λ (is : n ≡ put.number).
            absurd (none_there (bucket_in dims (pages old n))
            (ap (λ (k : ℕ). bucket_in dims (pages old k)) is
            ∙ ap (bucket_in dims) (sym (stay put.number) ∙ put.fresh))
            bucket))
            (λ (new_one : ¬ (n ≡ put.number)). ⊎_elim
            (λ (is : n ≡ directory).
            absurd (no_bucket dims (pages old n) page (ap (λ (k : ℕ). pages old k) is ∙ there) spelled
            bucket))
            (λ (off : ¬ (n ≡ directory)).
            subst (IsBucket dims) (sym (put.others n new_one off ∙ stay n)) bucket)
            (cases_eq n directory))
            (cases_eq n put.number);
      }

  -- the page that an addition names, where others were made before it
  pub begins_before : (dims directory class n : ℕ) (old now : PageCache B A m)
      → KeepsFirst dims directory old now
      → BeginsChain dims (given now) directory class n ⊎ MayBreakAt now n
      → (n ≡ directory) ⊎ (¬ (IsBucket dims (pages now n)))
      → BeginsChain dims (given old) directory class n
  begins_before dims directory class n old now kept names said = ⊎_elim
      (λ (begins : BeginsChain dims (given now) directory class n). ⊎_elim
      (λ (is : n ≡ directory). inl is)
      (λ (named : (¬ (n ≡ 0)) × NamesFirst dims (given now directory) class n). ⊎_elim
      (λ (is : n ≡ directory). inl is)
      (λ (none : ¬ (IsBucket dims (pages now n))). ⊎_elim
      (λ (before : NamesFirst dims (given old directory) class n). inr (named.0, before))
      (λ (bucket : IsBucket dims (pages now n)). absurd (none bucket))
      (kept.first class n named.1))
      said)
      begins)
      (λ (breaks : MayBreakAt now n). absurd (breaks.0 kept.sound))
      names

  -- where no page is touched, none was made before it
  pub begins_untouched : (dims directory class n : ℕ) (old now new : PageCache B A m) → class < 1000
      → (now ≡ old) ⊎ (touched_of now ≡ true) → (touched_of now ≡ true → touched_of new ≡ true)
      → touched_of new ≡ false → BeginsChain dims (given now) directory class n ⊎ MayBreakAt now n
      → BeginsInTable dims (given old) directory n ⊎ MayBreakAt old n
  begins_untouched dims directory class n old now new small begun stays none names = ⊎_elim
      (λ (same : now ≡ old). ⊎_elim
      (λ (begins : BeginsChain dims (given old) directory class n). inl (class, small, begins))
      (λ (breaks : MayBreakAt old n). inr breaks)
      (subst (λ (k : PageCache B A m). BeginsChain dims (given k) directory class n ⊎ MayBreakAt k n) same
      names))
      (λ (touched : touched_of now ≡ true). absurd (not_both (touched_of new) (stays touched) none))
      begun
