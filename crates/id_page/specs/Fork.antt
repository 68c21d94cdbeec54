-- What a fork page spells: its level, and its children in order of their keys.
use Rattle.std.specs.Prelude.{◌≡◌, ℕ, ◌+◌, ◌<◌, ◌≤◌, ◌&&◌, ◌==◌, nat_le, nat_lt, Bool, List, [], ◌∷◌, length}
use Rattle.std.specs.Prelude.{slice_index_or, Option, Some, None, if◌then◌else◌}
use Rattle.block_bytes.specs.Numbers.{number_at}
use Rattle.block_bytes.specs.Places.{first_places}
use Rattle.bucket_page.specs.Layout.{entry_place}
use Rattle.id_page.specs.Layout.{IsNamed, IsTidy, fork_kind}

-- a child: its key and its page
abbrev pub Link : Type 0
Link = ℕ × ℕ

-- what a fork holds
pub record ForkContent : Type 0 where
  pub level : ℕ
  pub links : List Link

abbrev pub with_links : ForkContent → List Link → ForkContent
with_links c links = record { level = c.level; links = links }

-- the bytes of a child, and the child in a place
abbrev pub link_size : ℕ
link_size = 12

unfoldable pub link_at : List ℕ → ℕ → Link
link_at page place =
    (number_at 8 (entry_place link_size place) page, number_at 4 (entry_place link_size place + 8) page)

-- the page begins as a fork of this dimension does
pub record HasForkHead (dims : ℕ) (page : List ℕ) : Type 0 where
  pub kind : number_at 1 0 page ≡ fork_kind
  pub dims_is : number_at 1 1 page ≡ dims
  pub few : number_at 2 2 page ≤ 340
  pub high : 1 ≤ number_at 1 4 page

-- the page spells this fork
pub record SpellsFork (dims : ℕ) (page : List ℕ) (c : ForkContent) : Type 0 where
  pub head : HasForkHead dims page
  pub level_is : number_at 1 4 page ≡ c.level
  pub links_are : c.links ≡ first_places (link_at page) (number_at 2 2 page)

-- whether it spells one, and which
unfoldable pub fork_test : ℕ → List ℕ → Bool
fork_test dims page = number_at 1 0 page == fork_kind && number_at 1 1 page == dims && nat_le
    (number_at 2 2 page) 340 && nat_le 1 (number_at 1 4 page)

unfoldable pub fork_at : ℕ → List ℕ → Option ForkContent
fork_at dims page = if fork_test dims page then Some
    (record { level = number_at 1 4 page; links = first_places (link_at page) (number_at 2 2 page) }) else
    None

-- the bytes that a fork page names, and a page in which all others are zero
abbrev pub fork_names : List ℕ → ℕ → Type 0
fork_names page = IsNamed 5 link_size (number_at 2 2 page)

abbrev pub IsTidyFork : List ℕ → Type 0
IsTidyFork page = IsTidy 5 link_size page

-- ---- the way to an identifier

-- the keys ascend strictly; that of the first child says nothing
abbrev pub AreAscending : List Link → Type 0
AreAscending links = (i k : ℕ) (other : Link) → 1 ≤ i → i < k → k < length links
    → (slice_index_or links i other).0 < (slice_index_or links k other).0

-- the page of the child before the first one whose key is greater, this child being the one so far
abbrev pub child_from : ℕ → ℕ → List Link → ℕ
child_from id page [] = page
child_from id page (x ∷ xs) = if nat_lt id x.0 then page else child_from id x.1 xs

-- the page of the child where an identifier is, if the fork has children
abbrev pub route : ℕ → List Link → Option ℕ
route id [] = None
route id (x ∷ xs) = Some (child_from id x.1 xs)

-- how many children the way passes before that one
abbrev pub passed_from : ℕ → List Link → ℕ
passed_from id [] = 0
passed_from id (x ∷ xs) = if nat_lt id x.0 then 0 else 1 + passed_from id xs

abbrev pub route_place : ℕ → List Link → ℕ
route_place id [] = 0
route_place id (x ∷ xs) = passed_from id xs
