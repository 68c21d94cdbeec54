-- An object put in place of one that is there.
use Rattle.std.proofs.Common.{◌≡◌, ◌∙◌, ℕ, zero, suc, ◌+◌, ◌-◌, ◌<◌, ◌≤◌, Bool, true, false, cond, eqb}
use Rattle.std.proofs.Common.{is_some, Option, Some, None, List, [], ◌∷◌, ◌++◌, length, get_or, set, refl}
use Rattle.std.proofs.Common.{sym, ap, subst, inl, arith}
use Rattle.std.proofs.lemmas.Bool.Decides.{nat_tests}
use Rattle.std.proofs.lemmas.List.{append-nil, length-set}
use Rattle.std.proofs.lemmas.List.Elements.{All-cons, All-tail}
use Rattle.std.specs.FinMap as map
use Rattle.box_math.specs.Objects.{Object}
use Rattle.bucket_page.specs.Layout.{Entry}
use Rattle.page_file.specs.Pages.{SameBut}
use Rattle.node_page.specs.Standing.{PageMap}
use Rattle.id_words.specs.Objects.{kept_in, times_in}
use Rattle.id_tree.specs.Changes.{Sets}
use Rattle.id_tree.specs.Rows.{IsBelow, NodeStands, Reaches, here, down}
use Rattle.id_tree.specs.Steps.{Becomes, Step, puts, Turns}
use Rattle.id_tree.specs.Tree.{IdTree, Row, TreeStands, leaf_in, objects_in, objects_of}
use Rattle.id_tree.proofs.LeafLemmas.{leaf_becomes, reached}
use Rattle.id_tree.proofs.ObjectLemmas.{is_other, turns_within}
use Rattle.id_tree.proofs.RootLemmas.{becomes_root, has, root_stands, sets_of}
use Rattle.id_tree.proofs.SeekLemmas.{some_times}
use Rattle.id_tree.proofs.WayLemmas.{child_stands, same_below, times_below}

-- one that is there, in the first place
puts_first : (id : ℕ) (kept : Object) (x : Entry) (xs : List Entry) → x.0 ≡ id
    → Turns id (puts kept) (x ∷ xs) ((id, kept) ∷ xs)
puts_first id kept x xs is = record {
  kept = λ q. step (eqb id q) (eqb x.0 q) (kept_in q xs) (ap (λ k. eqb k q) is);
  times = λ q. let same : ◌≡◌ {A = ℕ} (cond (eqb x.0 q) 1 0) (cond (eqb id q) 1 0) =
      ap (λ k. cond (eqb k q) 1 0) is in omega (arith, same);
  below = λ key all less. All-cons (λ (o : Entry). o.0 < key) (id, kept) xs less
      (All-tail (λ (o : Entry). o.0 < key) x xs all);
  from = λ key all le. All-cons (λ (o : Entry). key ≤ o.0) (id, kept) xs le
      (All-tail (λ (o : Entry). key ≤ o.0) x xs all);
}
  where
    step : (b d : Bool) (rest : Option Object) → d ≡ b
        → cond b (Some kept) rest ≡ cond b (Some kept) (cond d (Some x.1) rest)
    step true d rest e = refl
    step false d rest e = sym (ap (λ k. cond k (Some x.1) rest) e)

-- one of another identifier before
turns_more : (id : ℕ) (step : Step) (x : Entry) (xs ys : List Entry) → ¬ (x.0 ≡ id) → Turns id step xs ys
    → Turns id step (x ∷ xs) (x ∷ ys)
turns_more id step x xs ys other turns =
    let none : kept_in id (x ∷ []) ≡ None = ap (λ b. cond b (Some x.1) None) (is_other x.0 id other) in
    let all = turns_within id step (x ∷ []) xs ys [] none refl turns in
    subst (λ zs. Turns id step (x ∷ xs) (x ∷ zs)) (append-nil ys)
    (subst (λ zs. Turns id step (x ∷ zs) (x ∷ (ys ++ []))) (append-nil xs) all)

pub puts_at : (id : ℕ) (kept : Object) (none : Entry) (xs : List Entry) (place : ℕ) → place < length xs
    → (get_or xs place none).0 ≡ id → times_in id xs ≤ 1 → Turns id (puts kept) xs (set xs place (id, kept))
puts_at id kept none [] place lt is single = absurd (omega (arith, lt))
puts_at id kept none (x ∷ xs) zero lt is single = puts_first id kept x xs is
puts_at id kept none (x ∷ xs) (suc place) lt is single =
    let within : place < length xs = omega (arith, lt) in
    let two = some_times id place xs none within is in
    turns_more id (puts kept) x xs (set xs place (id, kept)) (λ same. twice x.0 same two single)
    (puts_at id kept none xs place within is (omega (arith, single)))
  where
    twice : (k : ℕ) → k ≡ id → 0 < times_in id xs → (cond (eqb k id) 1 0) + times_in id xs ≤ 1 → ⊥
    twice k same more few = let one : ◌≡◌ {A = ℕ} (cond (eqb k id) 1 0) 1 =
        ap (λ b. cond b 1 0) (yes k id same) in omega (arith, one, more, few)
      where
        yes : (a b : ℕ) → a ≡ b → eqb a b ≡ true
        yes a b h = grind (arith, nat_tests)

-- ---- in a table

-- the leaf that a way leads to stands, has of the identifier what the node has, and no other more often
pub record IsLast (dims : ℕ) (pages : PageMap) (id : ℕ) (row : Row) (leaf : ℕ) (last : Row) : Type 0 where
  pub edge : Bool
  pub stands : NodeStands dims pages leaf 0 edge last
  pub same : kept_in id (objects_in row) ≡ kept_in id (objects_in last)
  pub few : (q : ℕ) → times_in q (objects_in last) ≤ times_in q (objects_in row)

pub last_stands : (dims : ℕ) (pages : PageMap) (id level page : ℕ) (row : Row) (leaf : ℕ) (last : Row)
    (edge : Bool) → Reaches id level page row leaf last → NodeStands dims pages page level edge row
    → IsLast dims pages id row leaf last
last_stands dims pages id level page row leaf last edge (here p r) s =
    record { edge = edge; stands = s; same = refl; few = λ q. omega arith }
last_stands dims pages id level page row leaf last edge (down _ _ below _ _ _ high way rest) s =
    let later = last_stands dims pages id (level - 1) below way.below leaf last _ rest
    (child_stands dims pages page level edge id below row high s way) in
    record {
      edge = later.edge;
      stands = later.stands;
      same = same_below dims pages page level edge id below row high s way ∙ later.same;
      few =
          λ q. omega (arith, later.few q, times_below dims pages page level edge id below row high s way q);
    }

-- an identifier that the table has is found
pub not_missing : (t : IdTree) (id : ℕ) → map.contains_key (objects_of t) id ≡ true
    → kept_in id (objects_in t.row) ≡ None → ⊥
not_missing t id there none = let no : is_some (map.get (objects_of t) id) ≡ false =
    ap is_some (has t id ∙ none) in absurd (differ (map.contains_key (objects_of t) id) there no)
  where
    differ : (b : Bool) → b ≡ true → b ≡ false → ⊥
    differ true a d = cc
    differ false a d = cc

-- a table of which an object was put in its leaf
pub sets_put : (dims : ℕ) (old new : PageMap) (t : IdTree) (id leaf place : ℕ) (was kept : Object)
    → TreeStands dims old t → (b : IsBelow t.page t.level id t.row leaf place was)
    → SameBut leaf old new → leaf_in dims (new leaf) ≡ Some (set (objects_in b.last) place (id, kept))
    → times_in id (objects_in b.last) ≤ 1 → Sets dims old new t id kept
sets_put dims old new t id leaf place was kept s b others there single =
    let objects = objects_in b.last in
    let put = set objects place (id, kept) in
    let long : length put ≡ length objects = length-set objects place (id, kept) in
    let turns = puts_at id kept (id, was) objects place b.has.within
    (ap (λ (o : Entry). o.0) (b.has.is (id, was))) single in
    let becomes : Becomes dims old new t.page t.level true t.row id (puts kept) =
    reached dims old new id (puts kept) t.level t.page t.row leaf b.last true b.way (root_stands dims old t s)
    (λ (never : true ≡ false). absurd (cc))
    (λ edge stands large. leaf_becomes dims old new leaf edge b.last id (puts kept) put stands others there
    turns (omega (arith, long, b.has.within))
    (λ off. let enough = (large off).leaf refl in omega (arith, enough, long))) in
    sets_of dims old new t t.level id (puts kept) kept becomes.now refl s (inl refl)
    (becomes_root dims old new t id (puts kept) refl s becomes)
