-- The laws of what fork pages spell: which bytes are read, and that a fork has one page.
use Rattle.std.proofs.Common.{◌≡◌, ℕ, Some, ◌+◌, ◌<◌, ◌≤◌, List, length, sym, ◌∙◌, subst, arith, inl, inr}
use Rattle.std.proofs.Common.{⊎_elim}
use Rattle.std.proofs.lemmas.Bool.{cases_lt}
use Rattle.block_bytes.specs.FormLaws.{has_one_page, reads_named}
use Rattle.block_bytes.specs.Forms.{SameNamed}
use Rattle.block_bytes.specs.Laws.{number_at-fixes, number_at-same}
use Rattle.block_bytes.specs.Numbers.{AreBytes, number_at}
use Rattle.bucket_page.proofs.Places.{entry_place-above, entry_place-lt}
use Rattle.bucket_page.specs.Layout.{entry_place}
use Rattle.id_page.specs.Layout.{IsNamed}
use Rattle.id_page.specs.Fork.{ForkContent, fork_at, fork_names, link_at}
use Rattle.id_page.specs.ForkLaws.{ForksHaveOnePage, ReadsNamedOfForks, ReadsSpelledForks}
use Rattle.id_page.proofs.ForkReading.{count_of_fork, fork_is, fork_spelled, fork_spells, level_of_fork}
use Rattle.id_page.proofs.ForkReading.{link_of_fork, some_link}
use Rattle.id_page.proofs.LinkPlaces.{link_fixes, link_same}
use Rattle.id_page.proofs.Rows.{row_of}

pub reads_spelled : ReadsSpelledForks
reads_spelled dims page c = (fork_spells dims page c, fork_spelled dims page c)

module _ (a b : List ℕ) (same : SameNamed fork_names a b) where
  head_same : (n at : ℕ) → at + n ≤ 5 → number_at n at a ≡ number_at n at b
  head_same n at h = number_at-same n at a b (λ k le lt. same k (inl (omega (arith, le, lt, h))))

  one_same : (place : ℕ) → place < number_at 2 2 a → link_at a place ≡ link_at b place
  one_same place lt =
      link_same place a b
      (λ k le below. same k
      (inr (
        omega (arith, le, entry_place-above 12 place),
        omega
            (arith, below, entry_place-lt 12 place (number_at 2 2 a) lt),
      )))

  fork_same : (dims : ℕ) (c : ForkContent) → fork_at dims a ≡ Some c → fork_at dims b ≡ Some c
  fork_same dims c is =
      let s = fork_spells dims a c is in
      let long = count_of_fork dims a c is in
      let counts = head_same 2 2 (omega arith) in
      let levels = head_same 1 4 (omega arith) in
      let few = s.head.few in
      let high = s.head.high in
      fork_is dims b c
      (record {
        kind = sym (head_same 1 0 (omega arith))
            ∙ s.head.kind;
        dims_is = sym (head_same 1 1 (omega arith))
            ∙ s.head.dims_is;
        few = omega (arith, counts, few);
        high = omega (arith, levels, high);
      })
      (sym levels ∙ s.level_is) (sym counts ∙ long)
      (λ k lt. link_of_fork dims a c k some_link is lt ∙ one_same k (omega (arith, lt, long)))

pub reads_named_bytes : ReadsNamedOfForks
reads_named_bytes dims = reads_named (fork_at dims) fork_names
    (λ a b c same is. fork_same a b same dims c is)
    (λ a b same k of. subst (λ n. IsNamed 5 12 n k) (sym (head_same a b same 2 2 (omega arith))) of)

-- ---- one page

module _ (dims : ℕ) (a b : List ℕ) (c : ForkContent) (ba : AreBytes a) (bb : AreBytes b)
    (in_a : fork_at dims a ≡ Some c) (in_b : fork_at dims b ≡ Some c) where
  head_fixed : (k : ℕ) → k < 5 → number_at 1 k a ≡ number_at 1 k b
  head_fixed k lt =
      let ha = (fork_spells dims a c in_a).head in
      let hb = (fork_spells dims b c in_b).head in
      ⊎_elim (λ (h : k < 1). number_at-fixes 1 0 a b ba bb (ha.kind ∙ sym hb.kind) k (omega arith) h)
      (λ (h : 1 ≤ k). ⊎_elim
      (λ (l : k < 2). number_at-fixes 1 1 a b ba bb (ha.dims_is ∙ sym hb.dims_is) k h l)
      (λ (l : 2 ≤ k). ⊎_elim
      (λ (m : k < 4). number_at-fixes 2 2 a b ba bb
      (count_of_fork dims a c in_a ∙ sym (count_of_fork dims b c in_b)) k l m)
      (λ (m : 4 ≤ k). number_at-fixes 1 4 a b ba bb
      (level_of_fork dims a c in_a ∙ sym (level_of_fork dims b c in_b)) k m lt) (cases_lt k 4))
      (cases_lt k 2)) (cases_lt k 1)

  link_fixed : (k : ℕ) → 16 ≤ k → k < entry_place 12 (length c.links) → number_at 1 k a ≡ number_at 1 k b
  link_fixed k le lt =
      let row = row_of 12 (length c.links) k le lt in
      link_fixes row.0 a b ba bb
      (sym (link_of_fork dims a c row.0 some_link in_a row.1)
      ∙ link_of_fork dims b c row.0 some_link in_b row.1) k row.2 row.3

  named_fixed : (k : ℕ) → fork_names a k → number_at 1 k a ≡ number_at 1 k b
  named_fixed k (inl lt) = head_fixed k lt
  named_fixed k (inr of) =
      link_fixed k of.0 (subst (λ n. k < entry_place 12 n) (count_of_fork dims a c in_a) of.1)

pub one_page : ForksHaveOnePage
one_page dims = has_one_page (fork_at dims) fork_names
    (λ a b c ba bb in_a in_b. named_fixed dims a b c ba bb in_a in_b)
    (λ a b c in_a in_b k of. subst (λ n. IsNamed 5 12 n k)
    (count_of_fork dims b c in_b ∙ sym (count_of_fork dims a c in_a)) of)
