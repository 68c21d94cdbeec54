-- What a fork page spells, and the test of it.
use Rattle.std.proofs.Common.{◌≡◌, ◌⊎◌, ℕ, ◌+◌, ◌<◌, ◌≤◌, ◌&&◌, ◌==◌, true, inl, inr, subst, ⊎_elim, nat_le}
use Rattle.std.proofs.Common.{List, length, get_or, Some, None, IsSome, is_some, refl, sym, ◌∙◌, ap, arith}
use Rattle.std.proofs.lemmas.Bool.{cases_eq}
use Rattle.std.proofs.lemmas.Bool.Decides.{nat_tests}
use Rattle.std.proofs.lemmas.Option.{cond_some}
use Rattle.block_bytes.specs.FormLaws.{none_read}
use Rattle.block_bytes.specs.Numbers.{number_at}
use Rattle.block_bytes.specs.PlaceLaws.{first_places-are, get_or-first_places, length-first_places}
use Rattle.block_bytes.specs.Places.{first_places}
use Rattle.id_page.specs.Fork.{ForkContent, HasForkHead, Link, SpellsFork, fork_at, fork_test, link_at}

pub some_link : Link
some_link = (0, 0)

head_means : (k d dims n l : ℕ) → (k == 8 && d == dims && nat_le n 340 && nat_le 1 l) ≡ true
    → (k ≡ 8) × (d ≡ dims) × (n ≤ 340) × (1 ≤ l)
head_means k d dims n l h =
    (grind (arith, nat_tests), grind (arith, nat_tests), grind (arith, nat_tests), grind (arith, nat_tests))

head_test : (k d dims n l : ℕ) → k ≡ 8 → d ≡ dims → n ≤ 340 → 1 ≤ l
    → (k == 8 && d == dims && nat_le n 340 && nat_le 1 l) ≡ true
head_test k d dims n l kind is few high = grind (arith, nat_tests)

-- where the page spells a fork, reading it gives that fork
pub fork_spelled : (dims : ℕ) (page : List ℕ) (c : ForkContent) → SpellsFork dims page c
    → fork_at dims page ≡ Some c
unfolding fork_at fork_test
fork_spelled dims page c s =
    let n = number_at 2 2 page in
    let passes = head_test (number_at 1 0 page) (number_at 1 1 page) dims n (number_at 1 4 page) s.head.kind
    s.head.dims_is s.head.few s.head.high in
    rw passes
    (ap (λ level. Some (record { level = level; links = first_places (link_at page) n })) s.level_is
    ∙ ap (λ es. Some (record { level = c.level; links = es })) (sym s.links_are))

-- and what reading gives is spelled so
pub fork_spells : (dims : ℕ) (page : List ℕ) (c : ForkContent) → fork_at dims page ≡ Some c
    → SpellsFork dims page c
unfolding fork_at fork_test
fork_spells dims page c h =
    let n = number_at 2 2 page in
    let parts =
    cond_some
    (number_at 1 0 page == 8 && number_at 1 1 page == dims && nat_le n 340 && nat_le 1
    (number_at 1 4 page)) (record { level = number_at 1 4 page; links = first_places (link_at page) n }) c
    h in
    let means = head_means (number_at 1 0 page) (number_at 1 1 page) dims n (number_at 1 4 page) parts.0 in
    record {
      head = record { kind = means.0; dims_is = means.1; few = means.2; high = means.3 };
      level_is = ap (λ (x : ForkContent). x.level) parts.1;
      links_are = sym (ap (λ (x : ForkContent). x.links) parts.1);
    }

-- ---- what readers of a fork page know

pub count_of_fork : (dims : ℕ) (page : List ℕ) (c : ForkContent) → fork_at dims page ≡ Some c
    → number_at 2 2 page ≡ length c.links
count_of_fork dims page c is =
    sym (ap length (fork_spells dims page c is).links_are
    ∙ length-first_places (link_at page) (number_at 2 2 page))

pub level_of_fork : (dims : ℕ) (page : List ℕ) (c : ForkContent) → fork_at dims page ≡ Some c
    → number_at 1 4 page ≡ c.level
level_of_fork dims page c is = (fork_spells dims page c is).level_is

pub link_of_fork : (dims : ℕ) (page : List ℕ) (c : ForkContent) (place : ℕ) (other : Link)
    → fork_at dims page ≡ Some c → place < length c.links → get_or c.links place other ≡ link_at page place
link_of_fork dims page c place other is lt =
    ap (λ (es : List Link). get_or es place other) (fork_spells dims page c is).links_are
    ∙ get_or-first_places (link_at page) (number_at 2 2 page) place other
    (omega (arith, lt, count_of_fork dims page c is))

pub key_of_fork : (dims : ℕ) (page : List ℕ) (c : ForkContent) (place : ℕ) (other : Link)
    → fork_at dims page ≡ Some c → place < length c.links
    → (link_at page place).0 ≡ (get_or c.links place other).0
key_of_fork dims page c place other is lt = sym
    (ap (λ (x : Link). x.0) (link_of_fork dims page c place other is lt))

pub page_of_fork : (dims : ℕ) (page : List ℕ) (c : ForkContent) (place : ℕ) (other : Link)
    → fork_at dims page ≡ Some c → place < length c.links
    → (link_at page place).1 ≡ (get_or c.links place other).1
page_of_fork dims page c place other is lt = sym
    (ap (λ (x : Link). x.1) (link_of_fork dims page c place other is lt))

-- a child read as its key and its page is the one there
pub same_link : (link : Link) (key child : ℕ) → key ≡ link.0 → child ≡ link.1
    → ◌≡◌ {A = Link} (key, child) link
same_link link key child e f = ap (λ (k : ℕ). (k, child)) e ∙ ap (λ (p : ℕ). (link.0, p)) f

-- a page that spells no fork
pub no_fork : (dims : ℕ) (page : List ℕ) → (HasForkHead dims page → ⊥) → fork_at dims page ≡ None
no_fork dims page none = none_read (fork_at dims page) (λ c is. none (fork_spells dims page c is).head)

-- a page with its head and these children
pub fork_is : (dims : ℕ) (page : List ℕ) (c : ForkContent) → HasForkHead dims page
    → number_at 1 4 page ≡ c.level → number_at 2 2 page ≡ length c.links
    → ((k : ℕ) → k < length c.links → get_or c.links k some_link ≡ link_at page k)
    → fork_at dims page ≡ Some c
fork_is dims page c head level count each = fork_spelled dims page c (record {
  head = head;
  level_is = level;
  links_are = first_places-are (link_at page) (number_at 2 2 page) c.links some_link (sym count)
      (λ k lt. each k (omega (arith, lt, count)));
})

pub fork_if : (dims : ℕ) (page : List ℕ) → HasForkHead dims page → IsSome (fork_at dims page)
fork_if dims page head =
    let c : ForkContent =
    record { level = number_at 1 4 page; links = first_places (link_at page) (number_at 2 2 page) } in
    ap is_some (fork_spelled dims page c (record { head = head; level_is = refl; links_are = refl }))

-- the keys around a place, as those of the fork
module _ (dims : ℕ) (page : List ℕ) (c : ForkContent) (is : fork_at dims page ≡ Some c) (id low high : ℕ)
    (one : high ≡ low + 1) (within : high ≤ number_at 2 2 page) where
  pub from_key : (low ≡ 0) ⊎ ((link_at page low).0 ≤ id) → (low ≡ 0) ⊎ ((get_or c.links low some_link).0 ≤ id)
  from_key (inl h) = inl h
  from_key (inr h) = let long = count_of_fork dims page c is in
      inr (omega (arith, h, key_of_fork dims page c low some_link is (omega (arith, one, within, long))))

  pub upto_key : (high ≡ number_at 2 2 page) ⊎ (id < (link_at page high).0)
      → (low + 1 ≡ length c.links)
      ⊎ ((low + 1 < length c.links) × (id < (get_or c.links (low + 1) some_link).0))
  upto_key (inl h) = let long = count_of_fork dims page c is in inl (omega (arith, h, one, long))
  upto_key (inr h) =
      let long = count_of_fork dims page c is in
      ⊎_elim
      (λ (last : high ≡ length c.links). inl (omega (arith, last, one)))
      (λ (other : ¬ (high ≡ length c.links)).
      let lt : high < length c.links = let le : high ≤ length c.links = omega (arith, within, long) in
      grind (arith, other) in
      inr (omega (arith, lt, one), ap_less (omega (arith, h, key_of_fork dims page c high some_link is lt))))
      (cases_eq high (length c.links))
    where
      ap_less : id < (get_or c.links high some_link).0 → id < (get_or c.links (low + 1) some_link).0
      ap_less h = subst (λ (k : ℕ). id < (get_or c.links k some_link).0) one h
