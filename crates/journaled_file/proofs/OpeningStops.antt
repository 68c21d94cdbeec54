-- What a stop within an opening leaves, led back from the journal's pair to the two files.
use Rattle.std.proofs.Common.{◌≡◌, ◌⊎◌, refl, inl, inr, ⊎_elim}
use Rattle.block_device.specs.Device.{Blocks}
use Rattle.committed_log.specs.Log.{recovered}
use Rattle.committed_log.specs.Opening.{LeavesOr}
use Rattle.journaled_file.specs.Opened.{LeavesRead, ShownAs}
use Rattle.marked_pair.specs.Mark.{unmarked}
use Rattle.marked_pair.specs.Shown.{Shown}
use Rattle.titled_pair.specs.Title.{untitled}
use Rattle.titled_pair.specs.Titled.{Untitled}

-- a call leaves what one before it might have left
abbrev pub GoesBack : (Blocks → Blocks → Type 0) → (Blocks → Blocks → Type 0) → (Blocks → Blocks → Type 0)
    → Type 0
GoesBack past now may_leave = (a b : Blocks) → now a b → past a b ⊎ may_leave a b

-- and that counts as left since
abbrev pub Counts : (Blocks → Blocks → Type 0) → (Blocks → Blocks → Type 0) → Type 0
Counts may_leave past = (a b : Blocks) → may_leave a b → past a b

-- What stops left since one moment: of the files, once their title is taken over, and once their mark is.
module _ (files titled marked : Blocks → Blocks → Type 0) (m0 m1 m2 : Blocks → Blocks → Type 0)
    (n0 : Counts m0 files) (n1 : Counts m1 titled) (n2 : Counts m2 marked)
    (of_title : GoesBack files titled m0)
    (of_mark : GoesBack (Untitled titled) (Untitled marked) (Untitled m1)) where
  to_files : (a e : Blocks) → Untitled titled a (untitled e)
      → (d : Blocks) × files a d × (untitled e ≡ untitled d)
  to_files a e s = (s.0, ⊎_elim (λ was. was) (λ now. n0 a s.0 now) (of_title a s.0 s.1), s.2)

  to_titled : (a e : Blocks) → Untitled marked a (untitled e) → Untitled titled a (untitled e)
  to_titled a e s = ⊎_elim
      (λ was. was)
      (λ (now : Untitled m1 a (untitled e)). (now.0, n1 a now.0 now.1, now.2))
      (of_mark a (untitled e) s)

  -- before the journal's pair is opened
  pub back_to_files : (a e : Blocks) → marked a e → ShownAs files a e
  back_to_files a e left =
      let s = to_files a e (to_titled a e (e, left, refl)) in (a, s.0, s.1, refl, s.2)

  shown_as : (a e : Blocks) → Shown (Untitled marked) (unmarked a) (untitled e) → ShownAs files a e
  shown_as a e s = let f = to_files s.0 e (to_titled s.0 e s.1) in (s.0, f.0, f.1, s.2, f.2)

  -- and once it is
  pub back_from_pair : (opened : Blocks → Blocks → Type 0) (blocks : Blocks)
      → GoesBack (Shown (Untitled marked)) (Shown (Untitled opened)) (LeavesOr (Shown (Untitled m2)) blocks)
      → (a e : Blocks) → opened a e → LeavesRead files blocks a e
  back_from_pair opened blocks of_pair a e left = ⊎_elim
      (λ was. inl (shown_as a e was))
      (λ (now : LeavesOr (Shown (Untitled m2)) blocks (unmarked a) (untitled e)). ⊎_elim
      (λ (m : Shown (Untitled m2) (unmarked a) (untitled e)).
      inl (shown_as a e (m.0, (m.1.0, n2 m.0 m.1.0 m.1.1, m.1.2), m.2)))
      (λ (same : recovered (unmarked a) (untitled e) ≡ blocks). inr same)
      now)
      (of_pair (unmarked a) (untitled e) (a, (e, left, refl), refl))
