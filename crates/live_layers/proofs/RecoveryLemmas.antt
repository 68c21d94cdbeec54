-- What stops are found to have left over a device that commits: images of tables that were closed.
use Rattle.std.proofs.Common.{◌≡◌, ◌∙◌, ◌≤◌, ℕ, List, ◌∷◌, None, refl, sym, ap, subst, arith, inl, inr}
use Rattle.std.proofs.Common.{⊎_elim}
use Rattle.std.specs.List.{Contains}
use Rattle.std.specs.Prelude.{is_some, option_and_then}
use Rattle.block_device.specs.Device.{Begins, BeginsOne, Blocks, Brings, OrTaken, Recovery}
use Rattle.catalog_page.specs.Layout.{records_at}
use Rattle.page_file.specs.Opening.{failed_check}
use Rattle.page_file.specs.Pages.{next_in, pages_in}
use Rattle.page_file.specs.Prefix.{next_more, pages_more, passes_more, sound_more, version_more}
use Rattle.plain_table.specs.Table.{Table}
use Rattle.live_layers.specs.Image.{CommitsWhatOpens, IsImage, IsImageOfOne, IsRefusedOrImageOf}
use Rattle.live_layers.proofs.KeepLemmas.{same_pages_hold}

-- blocks that begin with an image are one
pub image_longer : (kept c : Blocks) (t : Table) → IsImage kept t → Begins kept c → IsImage c t
image_longer kept c t image begins = record {
  passes = passes_more kept c begins image.passes;
  free = sound_more kept c begins image.passes image.free;
  records = image.records;
  spelled = ap (option_and_then records_at) (pages_more kept c begins image.passes image.free 2)
      ∙ image.spelled;
  holds = same_pages_hold (pages_in kept) (pages_in c) (next_in kept) (next_in c) image.records t
      (pages_more kept c begins image.passes image.free) (next_more kept c begins image.passes image.free)
      (version_more kept c begins image.passes image.free) image.holds;
}

-- blocks that pass the checks are not refused
passes_none : (ts : List Table) (k : Blocks) → failed_check k ≡ None → IsRefusedOrImageOf ts k
    → IsImageOfOne ts k
passes_none ts k passes (inl refused) = let no = ap is_some (sym passes) ∙ refused in absurd (cc)
passes_none ts k passes (inr image) = image

pub one_among : (ts us : List Table) (c : Blocks) → ((t : Table) → Contains ts t → Contains us t)
    → IsImageOfOne ts c → IsImageOfOne us c
one_among ts us c among (u, there, image) = (u, among u there, image)

pub one_longer : (ts : List Table) (c : Blocks) → BeginsOne (IsImageOfOne ts) c → IsImageOfOne ts c
one_longer ts c (k, (u, there, image), begins) = (u, there, image_longer k c u image begins)

-- Over a run of calls that leaves refusals and images of the tables ts: a commit is then of those that were
-- kept, or of these; and so is what a stop within the run is found to have left.
module _ {D : Type 0} (moment : D → ℕ) (recovery : Recovery D) (old new : D) (ts kept us : List Table)
    (opens : CommitsWhatOpens recovery) (brings : Brings moment recovery old new (IsRefusedOrImageOf ts))
    (was : (k : Blocks) → recovery.commits old k → IsImageOfOne kept k)
    (within : (t : Table) → Contains kept t → Contains us t)
    (new_within : (t : Table) → Contains ts t → Contains us t) where
  taken : (k : Blocks) → OrTaken recovery old (IsRefusedOrImageOf ts) k → IsImageOfOne us k
  taken k = ⊎_elim
      (λ before. one_among kept us k within (was k before))
      (λ new. one_among ts us k new_within (passes_none ts k ((opens k).0 new.0) new.1))

  pub kept_after : (k : Blocks) → recovery.commits new k → IsImageOfOne us k
  kept_after k is = taken k (brings.commits k is)

  pub found_after : (since : ℕ) (so_far : List Table) → since ≤ moment old
      → ((c : Blocks) → recovery.found_since old since c → IsImageOfOne so_far c)
      → ((t : Table) → Contains us t → Contains so_far t)
      → (c : Blocks) → recovery.found_since new since c → IsImageOfOne so_far c
  found_after since so_far begun before among c is = ⊎_elim (before c)
      (λ one. one_among us so_far c among (one_longer us c (one.0, taken one.0 one.1, one.2)))
      (brings.found since c begun is)

-- where an image is all that is committed, it is what is found
pub image_kept : (blocks : Blocks) (t : Table) (ts : List Table) (k : Blocks) → IsImage blocks t → k ≡ blocks
    → IsImageOfOne (t ∷ ts) k
image_kept blocks t ts k image same =
    (t, (0, omega arith, refl), subst (λ (b : Blocks). IsImage b t) (sym same) image)
