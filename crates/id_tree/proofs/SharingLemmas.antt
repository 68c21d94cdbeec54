-- A full leaf and a neighbour with which it shares.
use Rattle.id_tree.specs.Tidy.{IsAsTidy}
use Rattle.std.proofs.Common.{◌≡◌, ℕ, zero, suc, ◌+◌, ◌-◌, ◌<◌, ◌≤◌, Bool, Option, Some, List, length, arith}
use Rattle.std.specs.Prelude.{IfSome}
use Rattle.std.proofs.lemmas.Bool.Decides.{nat_tests}
use Rattle.block_bytes.specs.Numbers.{number_at}
use Rattle.node_page.specs.Standing.{PageMap}
use Rattle.id_tree.specs.Joining.{HasChildren, IsBeside, IsPair, MayJoin, MayMeet, emptier_left}
use Rattle.id_tree.specs.Steps.{MaySplit}
use Rattle.id_tree.specs.Tree.{Row, end, more, object, child, RowStands, links_of}
use Rattle.id_tree.proofs.NodeLemmas.{node_there, stands_same}
use Rattle.id_tree.proofs.ResultLemmas.{some_is}

-- the pages of the children of a fork that stands are live
pub links_live : (dims : ℕ) (pages : PageMap) (level : ℕ) (row : Row) → RowStands dims pages level row
    → HasChildren pages (links_of row)
links_live dims pages level end stands k other within = absurd (omega (arith, within))
links_live dims pages level (more (object id kept) rest) stands k other within =
    links_live dims pages level rest stands.1 k other within
links_live dims pages level (more (child key page below) rest) stands zero other within =
    node_there dims pages page (level - 1) below stands.3
links_live dims pages level (more (child key page below) rest) stands (suc k) other within =
    links_live dims pages level rest stands.5 k other (omega (arith, within))

-- a place that was found beside another one
pub is_beside : (o : Option ℕ) (left place : ℕ) (row : Row) → o ≡ Some left
    → IfSome o (λ l. (l ≤ place) × (place ≤ l + 1)) → IfSome o (λ l. l + 1 < length (links_of row))
    → IsBeside left place row
is_beside o left place row is near within =
    let bounds = some_is o left (λ (l : ℕ). (l ≤ place) × (place ≤ l + 1)) is near in
    record {
      from = bounds.0;
      upto = bounds.1;
      within = some_is o left (λ (l : ℕ). l + 1 < length (links_of row)) is within;
    }

-- a fork with a full child and another one
pub split_meets : (dims : ℕ) (old new : PageMap) (page level : ℕ) (edge : Bool) (row : Row) (id p place : ℕ)
    (last : Bool) (left : ℕ) → ((n : ℕ) → new n ≡ old n)
    → MaySplit dims old page level edge row id p place last → IsBeside left place row
    → MayMeet dims new page level edge row id p place
split_meets dims old new page level edge row id p place last left same may beside = record {
  stands = stands_same dims old new page level edge row same may.stands;
  high = may.high;
  wide = omega (arith, beside.within);
  single = may.single;
  way = may.way;
  place_is = may.place_is;
}

-- and a pair of its children, as it computes
abbrev pub split_joins : (dims : ℕ) (old new : PageMap) (page level : ℕ) (edge : Bool) (row : Row)
    (id p place : ℕ) (last : Bool) (fork : List ℕ) (left first second key : ℕ) (second_last : Bool)
    → ((n : ℕ) → new n ≡ old n) → MaySplit dims old page level edge row id p place last
    → IsPair dims level edge row id fork left first second key second_last → IsAsTidy dims new fork
    → MayJoin dims new page level edge row id fork left first second key second_last
split_joins dims old new page level edge row id p place last fork left first second key second_last same may
    pair tidy = record {
      stands = stands_same dims old new page level edge row same may.stands;
      high = may.high;
      single = may.single;
      pair = pair;
      tidy = tidy;
    }

-- the emptier one of both neighbours
pub emptier_behind : (place : ℕ) (before behind : List ℕ) → number_at 2 2 behind < number_at 2 2 before
    → place ≡ emptier_left place before behind
emptier_behind place before behind less = grind (arith, nat_tests)

pub emptier_before : (place : ℕ) (before behind : List ℕ) → number_at 2 2 before ≤ number_at 2 2 behind
    → place - 1 ≡ emptier_left place before behind
emptier_before place before behind le = grind (arith, nat_tests)
