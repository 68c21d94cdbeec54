-- Pages of tables that are tidy, and stay so.
use Rattle.std.proofs.Common.{◌≡◌, ◌∙◌, ℕ, IfSome, List, None, Option, Some, ap, arith, inl, inr, subst, sym}
use Rattle.std.proofs.Common.{⊎_elim}
use Rattle.std.proofs.lemmas.Bool.{cases_eq}
use Rattle.std.specs.Prelude.{IsSomeAnd}
use Rattle.block_bytes.specs.Kinds.{bucket_kind, directory_kind}
use Rattle.block_bytes.specs.Numbers.{number_at}
use Rattle.bucket_page.proofs.Reading.{spells}
use Rattle.bucket_page.specs.Layout.{BucketContent, Entry, IsBucketKind, IsTidy, bucket_at}
use Rattle.page_file.specs.Pages.{SameBut}
use Rattle.node_page.specs.Standing.{PageMap}
use Rattle.id_chains.specs.Pages.{NewDirectory, PutsBefore, SetsLink, Shortens, Shrinks, Unlinks}
use Rattle.id_chains.specs.Table.{IsDirectory}
use Rattle.id_chains.specs.Tidy.{IsTidyPage, KeepsTidy}

-- ---- pages

-- a directory is no bucket page
no_bucket : (kind : ℕ) → kind ≡ directory_kind → IsBucketKind kind → ⊥
no_bucket kind is (inl e) = omega (arith, is, e)
no_bucket kind is (inr e) = omega (arith, is, e)

pub bucket_written : (dims : ℕ) (page : List ℕ) → number_at 1 0 page ≡ bucket_kind → IsTidy dims page
    → IsTidyPage dims page
bucket_written dims page kind tidy =
    record { directory = λ is. absurd (omega (arith, kind, is)); bucket = λ _. tidy }

pub bucket_kept : (dims : ℕ) (old new : List ℕ) (c : BucketContent) → bucket_at dims old ≡ Some c
    → number_at 1 0 new ≡ bucket_kind → (IsTidy dims old → IsTidy dims new) → IsTidyPage dims old
    → IsTidyPage dims new
bucket_kept dims old new c is kind so tidy =
    bucket_written dims new kind (so (tidy.bucket (spells dims old c is).head.kind))

pub directory_written : (dims : ℕ) (page : List ℕ) → NewDirectory dims page → IsTidyPage dims page
directory_written dims page is = record {
  directory = λ _. is.tidy;
  bucket = λ kind. absurd (no_bucket (number_at 1 0 page) is.spelled.kind kind);
}

pub link_kept : (dims class first : ℕ) (old new : List ℕ) → IsDirectory dims old
    → SetsLink class first old new → IsTidyPage dims old → IsTidyPage dims new
link_kept dims class first old new is link tidy = record {
  directory = λ _. link.tidy (tidy.directory is.kind);
  bucket = λ kind. absurd (no_bucket (number_at 1 0 new) (link.kind ∙ is.kind) kind);
}

-- ---- maps of pages

module _ (dims : ℕ) where
  there_tidy : (page : Option (List ℕ)) → IsSomeAnd page (IsTidyPage dims) → IfSome page (IsTidyPage dims)
  there_tidy None tidy = tt
  there_tidy (Some bytes) tidy = tidy

  if_same : (old new : Option (List ℕ)) → new ≡ old → IfSome old (IsTidyPage dims)
      → IfSome new (IsTidyPage dims)
  if_same old new same tidy = subst (λ (o : Option (List ℕ)). IfSome o (IsTidyPage dims)) (sym same) tidy

  pub same_keep : (old new : PageMap) → ((n : ℕ) → new n ≡ old n) → KeepsTidy dims old new
  same_keep old new same n tidy = if_same (old n) (new n) (same n) tidy

  pub keep_in_turn : (old mid new : PageMap) → KeepsTidy dims old mid → KeepsTidy dims mid new
      → KeepsTidy dims old new
  keep_in_turn old mid new first second n tidy = second n (first n tidy)

  -- all pages but one stay
  one_keeps : (old new : PageMap) (page : ℕ) → SameBut page old new
      → (IfSome (old page) (IsTidyPage dims) → IfSome (new page) (IsTidyPage dims)) → KeepsTidy dims old new
  one_keeps old new page others here n tidy = ⊎_elim
      (λ (is : n ≡ page). if_same (new page) (new n) (ap new is)
      (here (if_same (old n) (old page) (ap old (sym is)) tidy)))
      (λ (other : ¬ (n ≡ page)). if_same (old n) (new n) (others n other) tidy)
      (cases_eq n page)

  -- a page got other bytes
  pub page_keeps : (old new : PageMap) (page : ℕ) (was now : List ℕ) → old page ≡ Some was
      → new page ≡ Some now → SameBut page old new → (IsTidyPage dims was → IsTidyPage dims now)
      → KeepsTidy dims old new
  page_keeps old new page was now there there_now others so =
      one_keeps old new page others
      (λ tidy. if_same (Some now) (new page) there_now
      (so (if_same (old page) (Some was) (sym there) tidy)))

  -- a page was made
  pub made_keeps : (old new : PageMap) (page : ℕ) (now : List ℕ) → new page ≡ Some now
      → SameBut page old new → IsTidyPage dims now → KeepsTidy dims old new
  made_keeps old new page now there_now others tidy_now =
      one_keeps old new page others (λ _. if_same (Some now) (new page) there_now tidy_now)

  -- a directory names another page, beside a page that was written or freed
  links_keep : (old new : PageMap) (directory class first page : ℕ) (was now : List ℕ)
      → old directory ≡ Some was → IsDirectory dims was → new directory ≡ Some now
      → SetsLink class first was now → IfSome (new page) (IsTidyPage dims)
      → ((n : ℕ) → ¬ (n ≡ page) → ¬ (n ≡ directory) → new n ≡ old n) → KeepsTidy dims old new
  links_keep old new directory class first page was now there is there_now link here others n tidy = ⊎_elim
      (λ (at_page : n ≡ page). if_same (new page) (new n) (ap new at_page) here)
      (λ (off_page : ¬ (n ≡ page)). ⊎_elim
      (λ (at : n ≡ directory). if_same (Some now) (new n) (ap new at ∙ there_now)
      (link_kept dims class first was now is link
      (if_same (old n) (Some was) (sym there ∙ ap old (sym at)) tidy)))
      (λ (off : ¬ (n ≡ directory)). if_same (old n) (new n) (others n off_page off) tidy)
      (cases_eq n directory))
      (cases_eq n page)

  pub puts_keep : (old new : PageMap) (directory class first : ℕ) (es : List Entry) (was : List ℕ)
      → old directory ≡ Some was → IsDirectory dims was
      → PutsBefore dims old new directory class first es was → KeepsTidy dims old new
  puts_keep old new directory class first es was there is put =
      links_keep old new directory class put.number put.number was put.after there is put.there put.link
      (there_tidy (new put.number) put.tidy) put.others

  pub shrinks_keep : (old new : PageMap) (directory class first : ℕ) (c : BucketContent) (was : List ℕ)
      → old directory ≡ Some was → IsDirectory dims was
      → Shrinks dims old new directory class first c was → KeepsTidy dims old new
  shrinks_keep old new directory class first c was there is shrinks = ⊎_elim
      (λ (less : Shortens dims old new first c). less.tidy)
      (λ (less : Unlinks old new directory class first c was).
      links_keep old new directory class c.next first was less.after there is less.there less.link
      (if_same None (new first) less.gone tt) less.others)
      shrinks
