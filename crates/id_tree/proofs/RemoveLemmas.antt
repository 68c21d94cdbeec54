-- An object removed at or below a node, and from a table.
use Rattle.std.proofs.Common.{◌≡◌, ◌∙◌, ℕ, zero, suc, ◌+◌, ◌-◌, ◌<◌, ◌≤◌, ◌∷◌, [], Bool, true, false}
use Rattle.std.proofs.Common.{cond, eqb, Option, Some, None, IsSome, List, length, get_or, rules, refl, sym}
use Rattle.std.proofs.Common.{ap, subst, inl, inr, ◌⊎◌, ⊎_elim, arith}
use Rattle.std.proofs.lemmas.Bool.{cases_eq}
use Rattle.std.proofs.lemmas.Cmp.{nat_cmp_total}
use Rattle.std.proofs.lemmas.List.{append-nil, length-set, length-take-le}
use Rattle.std.proofs.Common.{set}
use Rattle.std.specs.FinMap as map
use Rattle.std.specs.FinMap.{get-remove, nat_cmp-IsAntisymmetric, same_map}
use Rattle.std.specs.List.{swap_remove}
use Rattle.box_math.specs.Objects.{Object}
use Rattle.bucket_page.specs.Layout.{Entry}
use Rattle.page_file.specs.Pages.{SameBut}
use Rattle.node_page.specs.Parts.{Moves}
use Rattle.node_page.specs.Standing.{PageMap}
use Rattle.node_page.proofs.PartLemmas.{moves_from, moves_in_turn, staying_moves}
use Rattle.id_page.specs.Fork.{fork_at, route, Link}
use Rattle.id_words.specs.Objects.{kept_in, times_in}
use Rattle.id_words.proofs.ObjectLemmas.{same_key}
use Rattle.id_tree.specs.Changes.{Removes}
use Rattle.id_tree.specs.Joining.{Has, HasSpare, IsAmong, IsOnly, Lowers, MakesSpare, MayFree, MayLower}
use Rattle.id_tree.specs.Joining.{MayMeet, MayShrink, PutsAndFrees}
use Rattle.id_tree.specs.Rows.{At, HasAt, NodeStands, part_at}
use Rattle.id_tree.specs.Steps.{Becomes, IsBeneath, drops, Turns}
use Rattle.id_tree.specs.Tree.{IdTree, IsFilled, IsLarge, IsParted, Row, end, more, object, child, RowStands}
use Rattle.id_tree.specs.Tree.{TreeStands, at_edge, fork_in, leaf_in, links_of, objects_in, objects_of}
use Rattle.id_tree.specs.Tree.{occurs, part_of}
use Rattle.id_tree.proofs.AddLemmas.{some_links}
use Rattle.id_tree.proofs.DropLemmas.{drops_at}
use Rattle.id_tree.proofs.LeafLemmas.{leaf_becomes}
use Rattle.id_tree.proofs.NodeLemmas.{below_there, is_there, leaf_pages, no_links, node_there, not_there}
use Rattle.id_tree.proofs.NodeLemmas.{occurs_here, part_there, row_stays, stands_same}
use Rattle.id_tree.proofs.ObjectLemmas.{is_other, is_same, turns_after}
use Rattle.id_tree.proofs.PartingLemmas.{some_object}
use Rattle.id_tree.proofs.PutLemmas.{not_missing}
use Rattle.id_tree.proofs.RootLemmas.{IsRoot, has, root_stands, tree_of, tree_same}
use Rattle.id_tree.proofs.WayLemmas.{by_child, child_stands, child_turned, same_below, times_below}

-- ---- a leaf

swapped_long : (xs : List Entry) (place : ℕ) (other : Entry)
    → length (swap_remove xs place other) ≡ length xs - 1
swapped_long xs place other = length-take-le (length xs - 1) (set xs place (get_or xs (length xs - 1) other))
    (let same = length-set xs place (get_or xs (length xs - 1) other) in omega (arith, same))

-- a leaf that lost an object
pub leaf_shrinks : (dims : ℕ) (old new : PageMap) (page : ℕ) (edge : Bool) (row : Row) (id place : ℕ)
    (kept : Object) → MayShrink dims old page 0 edge row → HasAt id (objects_in row) place kept
    → SameBut page old new → leaf_in dims (new page) ≡ Some (swap_remove (objects_in row) place some_object)
    → Becomes dims old new page 0 edge row id drops
leaf_shrinks dims old new page edge row id place kept may there others is =
    let xs = objects_in row in
    let long = swapped_long xs place some_object in
    let some = may.spare.leaf refl in
    leaf_becomes dims old new page edge row id drops (swap_remove xs place some_object) may.stands others is
    (drops_at id place kept some_object xs there.within (there.is some_object) may.single)
    (omega (arith, long, some))
    (λ off. let large = may.spare.large_leaf refl off in omega (arith, long, large))

-- ---- on the way down

pub shrink_same : (dims : ℕ) (old new : PageMap) (page level : ℕ) (edge : Bool) (row : Row)
    → ((n : ℕ) → new n ≡ old n) → MayShrink dims old page level edge row
    → MayShrink dims new page level edge row
shrink_same dims old new page level edge row same m =
    record {
      stands = stands_same dims old new page level edge row same m.stands;
      spare = m.spare;
      single =
          m.single;
    }

-- the child where the identifier is may lose it, if it has enough
pub may_shrink_below : (dims : ℕ) (pages : PageMap) (page level : ℕ) (edge : Bool) (row : Row) (id p : ℕ)
    (last : Bool) → 0 < level → NodeStands dims pages page level edge row
    → ((q : ℕ) → times_in q (objects_in row) ≤ 1)
    → (way : At id p row) → last ≡ at_edge edge way.rest → HasSpare dims (level - 1) last way.below
    → MayShrink dims pages p (level - 1) last way.below
may_shrink_below dims pages page level edge row id p last high s single way is spare = record {
  stands = subst (λ e. NodeStands dims pages p (level - 1) e way.below) (sym is)
      (child_stands dims pages page level edge id p row high s way);
  spare = spare;
  single = λ q. omega (arith, single q, times_below dims pages page level edge id p row high s way q);
}

pub has_below : (dims : ℕ) (pages : PageMap) (page level : ℕ) (edge : Bool) (row : Row) (id p : ℕ) → 0 < level
    → NodeStands dims pages page level edge row → (way : At id p row) → Has id row → Has id way.below
has_below dims pages page level edge row id p high s way has none =
    has (same_below dims pages page level edge id p row high s way ∙ none)

spare_large : (dims level : ℕ) (edge : Bool) (row : Row) → HasSpare dims level edge row → edge ≡ false
    → IsLarge dims level row
spare_large dims level edge row spare off = record {
  leaf = λ low. let large = spare.large_leaf low off in omega (arith, large);
  fork = λ up. let large = spare.large_fork up off in omega (arith, large);
}

-- the child lost it as it is
pub shrinks_beneath : (dims : ℕ) (old new : PageMap) (page level : ℕ) (edge : Bool) (row : Row) (id p : ℕ)
    (last : Bool) → 0 < level → MayShrink dims old page level edge row → (way : At id p row)
    → last ≡ at_edge edge way.rest
    → Becomes dims old new p (level - 1) last way.below id drops
    → Becomes dims old new page level edge row id drops
shrinks_beneath dims old new page level edge row id p last high may way is b =
    by_child dims old page level edge id p row high may.stands way new drops
    (spare_large dims level edge row may.spare)
    (subst (λ e. Becomes dims old new p (level - 1) e way.below id drops) is b)

-- enough was made in a child, which then lost it
pub shrinks_after : (dims : ℕ) (old mid new : PageMap) (page level : ℕ) (edge : Bool) (row : Row) (id p : ℕ)
    (last : Bool) → 0 < level → MayShrink dims old page level edge row
    → (made : MakesSpare dims old mid page level edge row id p last)
    → Becomes dims mid new p (level - 1) last made.way.below id drops
    → Becomes dims old new page level edge row id drops
shrinks_after dims old mid new page level edge row id p last high may made b =
    let large : edge ≡ false → IsLarge dims level made.now = λ off. record {
      leaf = λ low. absurd (omega (arith, low, high));
      fork = λ up. let before = may.spare.large_fork up off in omega (arith, before, made.wide);
    } in
    let then = child_turned dims mid page level edge id p made.now high made.stands made.way new drops large
    (subst (λ e. Becomes dims mid new p (level - 1) e made.way.below id drops) made.last_is b) in
    let done = then.becomes in
    record {
      now = done.now;
      stands = done.stands;
      turns = turns_after id drops (objects_in row) (objects_in made.now) (objects_in done.now) made.keeps
          done.turns;
      some = done.some;
      large = done.large;
      wide = omega (arith, made.wide, ap length then.links);
      moves = moves_in_turn old mid new (part_at page row) (part_at page made.now) (part_at page done.now)
          made.moves done.moves;
    }

-- after which that child may lose it
pub may_shrink_made : (dims : ℕ) (old mid : PageMap) (page level : ℕ) (edge : Bool) (row : Row) (id p : ℕ)
    (last : Bool) → 0 < level → MayShrink dims old page level edge row
    → (made : MakesSpare dims old mid page level edge row id p last)
    → MayShrink dims mid p (level - 1) last made.way.below
may_shrink_made dims old mid page level edge row id p last high may made =
    may_shrink_below dims mid page level edge made.now id p last high made.stands
    (λ q. omega (arith, made.keeps.times q, may.single q)) made.way made.last_is made.spare

pub has_made : (dims : ℕ) (old mid : PageMap) (page level : ℕ) (edge : Bool) (row : Row) (id p : ℕ)
    (last : Bool) → 0 < level → (made : MakesSpare dims old mid page level edge row id p last) → Has id row
    → Has id made.way.below
has_made dims old mid page level edge row id p last high made there =
    has_below dims mid page level edge made.now id p high made.stands made.way
    (λ none. there (sym (made.keeps.kept id) ∙ none))

-- the child is joined where it has too little
pub may_meet : (dims : ℕ) (pages : PageMap) (page level : ℕ) (edge : Bool) (row : Row) (id q place : ℕ)
    (last room : Bool) → 0 < level → MayShrink dims pages page level edge row
    → IsBeneath dims level edge row id q place last room
    → MayMeet dims pages page level edge row id q place
may_meet dims pages page level edge row id q place last room high may beneath =
    record {
      stands = may.stands;
      high = high;
      wide = may.spare.fork high;
      single = may.single;
      way =
          beneath.way;
      place_is = beneath.place_is;
    }

-- ---- a table

pub removes_of : (dims : ℕ) (old new : PageMap) (t : IdTree) (level id : ℕ) (now : Row)
    → TreeStands dims old t → IsRoot dims old new t level id drops now → Removes dims old new t id
removes_of dims old new t level id now s r = record {
  table = table;
  page = refl;
  stands = tree_of dims old new t level id drops now s (inl refl) r;
  objects = same_map nat_cmp_total nat_cmp-IsAntisymmetric (objects_of table) (map.remove (objects_of t) id)
      (λ q.
      has table q ∙ r.turns.kept q ∙ ap (λ o. cond (eqb id q) None o) (sym (has t q))
      ∙ ap (λ b. cond b None (map.get (objects_of t) q)) (sym (same_key q id))
      ∙ sym (get-remove nat_cmp_total (objects_of t) id q));
  moves = r.moves;
}
  where
    table : IdTree
    table = record { page = t.page; level = level; row = now }

pub removes_from : (dims : ℕ) (old mid new : PageMap) (t : IdTree) (id : ℕ) → ((n : ℕ) → mid n ≡ old n)
    → Removes dims mid new t id → Removes dims old new t id
removes_from dims old mid new t id same r = record {
  table = r.table;
  page = r.page;
  stands = r.stands;
  objects = r.objects;
  moves =
      moves_from old mid new (part_of t) (part_of r.table) same r.moves;
}

-- what the table has is in its root
pub has_object : (t : IdTree) (id : ℕ) → map.contains_key (objects_of t) id ≡ true → Has id t.row
has_object t id there none = not_missing t id there none

-- ---- a root of two children or more

module _ (dims : ℕ) (old : PageMap) (t : IdTree) (root level id : ℕ) (at : t.page ≡ root)
    (among : IsAmong dims old t level) where
  pub may_shrink_root : MayShrink dims old root level true t.row
  may_shrink_root =
      subst (λ p. MayShrink dims old p level true t.row) at
      (subst (λ l. MayShrink dims old t.page l true t.row) (sym among.level_is) (record {
        stands = root_stands dims old t among.stands;
        spare = record {
          leaf = λ low. absurd (omega (arith, low, among.stands.high));
          fork = λ up. among.wide;
          large_leaf = λ low (never : true ≡ false). absurd (cc);
          large_fork = λ up (never : true ≡ false). absurd (cc);
        };
        single = among.stands.single;
      }))

  module _ (mid : PageMap) (b : Becomes dims old mid root level true t.row id drops) where
    pub may_lower : MayLower dims mid root level b.now
    may_lower = record {
      stands = b.stands;
      high = omega (arith, among.level_is, among.stands.high);
      some = omega (arith, b.wide, among.wide);
    }

    pub removes_among : (new : PageMap) → Lowers dims mid new root level b.now → Removes dims old new t id
    removes_among new w = removes_of dims old new t w.height id w.now among.stands (record {
      high = w.high;
      bounded = omega (arith, w.low, among.level_is, among.stands.bounded);
      stands = subst (λ p. NodeStands dims new p w.height true w.now) (sym at) w.stands;
      turns = subst (Turns id drops (objects_in t.row)) (sym w.objects) b.turns;
      moves = subst (λ p. Moves old new (part_at p t.row) (part_at p w.now)) (sym at)
          (moves_in_turn old mid new (part_at root t.row) (part_at root b.now) (part_at root w.now) b.moves
          w.moves);
      wide = w.wide;
    })

-- ---- a root of one leaf

-- with the same leaf, as it computes
abbrev pub only_same : (dims : ℕ) (old new : PageMap) (t : IdTree) (leaf : ℕ) → ((n : ℕ) → new n ≡ old n)
    → IsOnly dims old t leaf → IsOnly dims new t leaf
only_same dims old new t leaf same only = record {
  stands = tree_same dims old new t same only.stands;
  level_is = only.level_is;
  key = only.key;
  below =
      only.below;
  is = only.is;
}

module _ (dims : ℕ) (old : PageMap) (t : IdTree) (root leaf id : ℕ) (at : t.page ≡ root)
    (only : IsOnly dims old t leaf) where
  way : At id leaf t.row
  way = record
      { front = end; key = only.key; below = only.below; rest = end; is = only.is; passes = tt; stops = tt }

  stands : NodeStands dims old t.page t.level true t.row
  stands = root_stands dims old t only.stands

  row_objects : objects_in t.row ≡ objects_in only.below
  row_objects = ap objects_in only.is ∙ append-nil (objects_in only.below)

  pub leaf_stands : NodeStands dims old leaf 0 true only.below
  unfolding way
  leaf_stands =
      let down : t.level - 1 ≡ 0 = omega (arith, only.level_is) in
      subst (λ l. NodeStands dims old leaf l true only.below) down
      (child_stands dims old t.page t.level true id leaf t.row only.stands.high stands way)

  pub may_shrink_only : 1 < length (objects_in only.below) → MayShrink dims old leaf 0 true only.below
  may_shrink_only some = record {
    stands = leaf_stands;
    spare = record {
      leaf = λ low. some;
      fork = λ up. absurd (omega (arith, up));
      large_leaf = λ low (never : true ≡ false). absurd (cc);
      large_fork = λ up. absurd (omega (arith, up));
    };
    single = λ q. omega (arith, only.stands.single q, ap (times_in q) row_objects);
  }

  pub has_only : Has id t.row → Has id only.below
  has_only there none = there (ap (kept_in id) row_objects ∙ none)

  pub only_has : Has id only.below → Has id t.row
  only_has there none = there (sym (ap (kept_in id) row_objects) ∙ none)

  pub few_only : length (objects_in only.below) ≤ 1 → length (objects_in t.row) ≤ 1
  few_only few = omega (arith, few, ap length row_objects)

  pub removes_only : (new : PageMap) → Becomes dims old new leaf 0 true only.below id drops
      → Removes dims old new t id
  unfolding way
  removes_only new b =
      let up : t.level - 1 ≡ 0 = omega (arith, only.level_is) in
      let above = by_child dims old t.page t.level true id leaf t.row only.stands.high stands way new drops
      (λ (never : true ≡ false). absurd (cc))
      (subst (λ l. Becomes dims old new leaf l true only.below id drops) (sym up) b) in
      removes_of dims old new t t.level id above.now only.stands (record {
        high = only.stands.high;
        bounded = only.stands.bounded;
        stands = above.stands;
        turns = above.turns;
        moves = above.moves;
        wide = λ two. absurd (omega (arith, two, only.level_is));
      })

  counted : (n : ℕ) → part_at root t.row n ≡ cond (eqb root n) 1 0 + cond (eqb leaf n) 1 0
  counted n = omega (arith, ap (occurs n) only.is, leaf_pages dims old only.below n leaf_stands.below)

  once : (n : ℕ) → part_at root t.row n ≤ 1
  once n = subst (λ p. part_at p t.row n ≤ 1) at (only.stands.once n)

  pub may_free_only : MayFree old root leaf
  may_free_only = record {
    first_live = subst (λ p. IsSome (old p)) at (node_there dims old t.page t.level t.row only.stands.root);
    second_live = node_there dims old leaf 0 only.below leaf_stands.node;
    apart = λ is.
        let one : ◌≡◌ {A = ℕ} (cond (eqb root root) 1 0) 1 = occurs_here root in
        let two : ◌≡◌ {A = ℕ} (cond (eqb leaf root) 1 0) 1 = ap (λ k. cond (eqb k root) 1 0) (sym is)
        ∙ occurs_here root in
        omega (arith, one, two, counted root, once root);
    low = leaf_stands.low;
  }

  -- its only object went, and the leaf with it
  pub removes_last : (new : PageMap) (bytes : List ℕ)
      → fork_at dims bytes ≡ Some (record { level = 1; links = [] }) → PutsAndFrees old new root leaf bytes
      → Has id t.row → length (objects_in t.row) ≤ 1 → Removes dims old new t id
  removes_last new bytes is puts there few = removes_of dims old new t 1 id end only.stands (record {
    high = omega arith;
    bounded = omega arith;
    stands = subst (λ p. NodeStands dims new p 1 true end) (sym at) (record {
      low = subst (λ p. 2 < p) at only.stands.low;
      node = record
          { leaf = λ never. absurd (omega (arith, never)); fork = λ high. ap (fork_in dims) puts.there ∙ is };
      below = tt;
      parted = tt;
      filled = tt;
      once = λ n. omega (arith, counted n, once n);
    });
    turns = last_drops (objects_in t.row) there few;
    moves = subst (λ p. Moves old new (part_at p t.row) (part_at p end)) (sym at) (record {
      outside = λ n none gone. puts.others n
          (λ is. let one = is_here root n is in omega (arith, one, gone))
          (λ is. let one = is_here leaf n is in omega (arith, one, none, counted n));
      came = λ n none some. absurd (omega (arith, none, some, counted n));
      went = λ n some none. ⊎_elim
          (λ (is : leaf ≡ n). subst (λ k. new k ≡ None) is puts.gone)
          (λ (other : ¬ (leaf ≡ n)). let no = not_there leaf n other in
          absurd (omega (arith, some, none, no, counted n)))
          (cases_eq leaf n);
      live = λ n some. ⊎_elim
          (λ (is : n ≡ root). subst (λ k. IsSome (new k)) (sym is) (is_there (new root) bytes puts.there))
          (λ (off : ¬ (n ≡ root)). let no = not_there root n (λ is. off (sym is)) in
          absurd (omega (arith, some, no)))
          (cases_eq n root);
      once = λ n. omega (arith, counted n, once n);
    });
    wide = λ two. absurd (omega (arith, two));
  })
    where
      is_here : (p n : ℕ) → n ≡ p → ◌≡◌ {A = ℕ} (cond (eqb p n) 1 0) 1
      is_here p n is = ap (λ k. cond (eqb p k) 1 0) is ∙ occurs_here p

      nothing : (b : Bool) → ◌≡◌ {A = ℕ} (cond b 0 0) 0
      nothing true = refl
      nothing false = refl

      swap_cases : (a b : ℕ) → (¬ (a ≡ b)) ⊎ (a ≡ b)
      swap_cases a b = ⊎_elim (λ (is : a ≡ b). inr is) (λ (other : ¬ (a ≡ b)). inl other) (cases_eq a b)

      last_drops : (xs : List Entry) → ¬ (kept_in id xs ≡ None) → length xs ≤ 1 → Turns id drops xs []
      last_drops [] there few = absurd (there refl)
      last_drops (x ∷ y ∷ ys) there few = absurd (omega (arith, few))
      last_drops (x ∷ []) there few = ⊎_elim
          (λ (other : ¬ (x.0 ≡ id)). absurd
          (there (ap (λ b. cond b (Some x.1) None) (is_other x.0 id other))))
          (λ (same : x.0 ≡ id). record {
            kept = λ q. ⊎_elim
                (λ (is : id ≡ q). sym (ap (λ b. cond b None (kept_in q (x ∷ []))) (is_same id q is)))
                (λ (off : ¬ (id ≡ q)).
                sym (ap (λ b. cond b None (kept_in q (x ∷ []))) (is_other id q off)
                ∙ ap (λ b. cond b (Some x.1) None) (is_other x.0 q (λ is. off (sym same ∙ is)))))
                (cases_eq id q);
            times = λ q. let none = nothing (eqb id q) in
                let here : ◌≡◌ {A = ℕ} (cond (eqb x.0 q) 1 0) (cond (eqb id q) 1 0) =
                ap (λ k. cond (eqb k q) 1 0) same in omega (arith, none, here);
            below = λ key all less. search rules;
            from = λ key all le. search rules;
          })
          (swap_cases x.0 id)

-- ---- a root with one child above others

pub record OnlyChild (row : Row) : Type 0 where
  pub key : ℕ
  pub page : ℕ
  pub below : Row
  pub is : row ≡ more (child key page below) end

pub only_child : (dims : ℕ) (pages : PageMap) (level : ℕ) (row : Row) → 0 < level
    → RowStands dims pages level row → length (links_of row) ≡ 1 → OnlyChild row
only_child dims pages level end high stands one = absurd (omega (arith, one))
only_child dims pages level (more (object i o) rest) high stands one = absurd (omega (arith, high, stands.0))
only_child dims pages level (more (child key page below) rest) high stands one =
    record {
      key = key;
      page = page;
      below = below;
      is =
          ap (λ (r : Row). more (child key page below) r)
          (no_links dims pages level rest high stands.5 (omega (arith, one)));
    }

-- it stays where it is
pub lowers_none : (dims : ℕ) (old new : PageMap) (root level : ℕ) (row : Row) → ((n : ℕ) → new n ≡ old n)
    → MayLower dims old root level row → (1 < level → 2 ≤ length (links_of row))
    → Lowers dims old new root level row
lowers_none dims old new root level row same may wide = record {
  height = level;
  now = row;
  high = may.high;
  low = omega arith;
  stands = stands_same dims old new root level true row same may.stands;
  objects = refl;
  wide = wide;
  moves = staying_moves old new (part_at root row) same may.stands.once
      (λ n some. part_there dims old root level true row n may.stands some);
}

module _ (dims : ℕ) (old : PageMap) (root level : ℕ) (row : Row) (may : MayLower dims old root level row)
    (one : OnlyChild row) where
  child_row : RowStands dims old level (more (child one.key one.page one.below) end)
  child_row = subst (RowStands dims old level) one.is may.stands.below

  part : (n : ℕ) → part_at root row n ≡ cond (eqb root n) 1 0 + part_at one.page one.below n
  part n = omega (arith, ap (occurs n) one.is)

  at_page : (p n : ℕ) → n ≡ p → ◌≡◌ {A = ℕ} (cond (eqb p n) 1 0) 1
  at_page p n is = ap (λ k. cond (eqb p k) 1 0) is ∙ occurs_here p

  pub may_free_child : MayFree old root one.page
  may_free_child = record {
    first_live = node_there dims old root level row may.stands.node;
    second_live = node_there dims old one.page (level - 1) one.below child_row.3;
    apart = λ is. let here = at_page root root refl in let two = at_page one.page root is in
        omega (arith, here, two, part root, may.stands.once root);
    low = child_row.1;
  }

  pub only_fork : 1 < level
      → fork_in dims (old one.page) ≡ Some (record { level = level - 1; links = links_of one.below })
  only_fork two = child_row.3.fork (omega (arith, two))

  module _ (mid : PageMap) (bytes : List ℕ) (was : old one.page ≡ Some bytes)
      (puts : PutsAndFrees old mid root one.page bytes) (two : 1 < level) where
    stays : (n : ℕ) → 0 < occurs n one.below → mid n ≡ old n
    stays n some = puts.others n
        (λ is. let here = at_page root n is in omega (arith, here, some, part n, may.stands.once n))
        (λ is. let here = at_page one.page n is in omega (arith, here, some, part n, may.stands.once n))

    lifted_parted : IsParted one.below
    lifted_parted = (subst IsParted one.is may.stands.parted).0

    lifted_filled : IsFilled dims (level - 1) true one.below
    lifted_filled = (subst (IsFilled dims level true) one.is may.stands.filled).1

    pub may_lower_child : MayLower dims mid root (level - 1) one.below
    may_lower_child = record {
      stands = record {
        low = may.stands.low;
        node = record {
          leaf = λ low. absurd (omega (arith, low, two));
          fork = λ up. ap (fork_in dims) (puts.there ∙ sym was) ∙ child_row.3.fork up;
        };
        below = row_stays dims old mid (level - 1) one.below stays child_row.4;
        parted = lifted_parted;
        filled = lifted_filled;
        once = λ n. omega (arith, part n, may.stands.once n);
      };
      high = omega (arith, two);
      some = some_links dims old (level - 1) one.below (omega (arith, two)) child_row.4 child_row.2;
    }

    lifted_moves : Moves old mid (part_at root row) (part_at root one.below)
    lifted_moves = record {
      outside = λ n none gone. puts.others n
          (λ is. let here = at_page root n is in omega (arith, here, gone))
          (λ is. let here = at_page one.page n is in omega (arith, here, none, part n));
      came = λ n none some. absurd (omega (arith, none, some, part n));
      went = λ n some none. ⊎_elim
          (λ (is : one.page ≡ n). subst (λ k. mid k ≡ None) is puts.gone)
          (λ (other : ¬ (one.page ≡ n)). let no = not_there one.page n other in
          absurd (omega (arith, some, none, no, part n)))
          (cases_eq one.page n);
      live = λ n some. ⊎_elim
          (λ (is : n ≡ root). subst (λ k. IsSome (mid k)) (sym is) (is_there (mid root) bytes puts.there))
          (λ (off : ¬ (n ≡ root)).
          let no = not_there root n (λ is. off (sym is)) in
          let below : 0 < occurs n one.below = omega (arith, some, no) in
          subst IsSome (sym (stays n below)) (below_there dims old (level - 1) one.below n child_row.4 below))
          (cases_eq n root);
      once = λ n. omega (arith, part n, may.stands.once n);
    }

    pub lowers_more : (new : PageMap) → Lowers dims mid new root (level - 1) one.below
        → Lowers dims old new root level row
    lowers_more new w = record {
      height = w.height;
      now = w.now;
      high = w.high;
      low = omega (arith, w.low);
      stands = w.stands;
      objects = w.objects ∙ sym (ap objects_in one.is ∙ append-nil (objects_in one.below));
      wide = w.wide;
      moves = moves_in_turn old mid new (part_at root row) (part_at root one.below) (part_at root w.now)
          lifted_moves w.moves;
    }

pub lowers_from : (dims : ℕ) (old mid new : PageMap) (root level : ℕ) (row : Row) → ((n : ℕ) → mid n ≡ old n)
    → Lowers dims mid new root level row → Lowers dims old new root level row
lowers_from dims old mid new root level row same w = record {
  height = w.height;
  now = w.now;
  high = w.high;
  low = w.low;
  stands = w.stands;
  objects = w.objects;
  wide = w.wide;
  moves = moves_from old mid new (part_at root row) (part_at root w.now) same w.moves;
}

pub lower_same : (dims : ℕ) (old new : PageMap) (root level : ℕ) (row : Row) → ((n : ℕ) → new n ≡ old n)
    → MayLower dims old root level row → MayLower dims new root level row
lower_same dims old new root level row same may =
    record {
      stands = stands_same dims old new root level true row same may.stands;
      high = may.high;
      some =
          may.some;
    }

-- ---- the same pages

pub free_same : (old new : PageMap) (first second : ℕ) → ((n : ℕ) → new n ≡ old n) → MayFree old first second
    → MayFree new first second
free_same old new first second same may = record {
  first_live = subst IsSome (sym (same first)) may.first_live;
  second_live = subst IsSome (sym (same second)) may.second_live;
  apart = may.apart;
  low = may.low;
}

pub puts_from : (old mid new : PageMap) (first second : ℕ) (bytes : List ℕ) → ((n : ℕ) → mid n ≡ old n)
    → PutsAndFrees mid new first second bytes → PutsAndFrees old new first second bytes
puts_from old mid new first second bytes same puts =
    record { others = λ n off away. puts.others n off away ∙ same n; there = puts.there; gone = puts.gone }

-- the only child is the one that the way names
pub named_child : (dims : ℕ) (pages : PageMap) (root level : ℕ) (row : Row) (named : Option ℕ) (q : ℕ)
    → MayLower dims pages root level row → (one : OnlyChild row) → named ≡ route 0 (links_of row)
    → named ≡ Some q → q ≡ one.page
named_child dims pages root level row named q may one is there =
    same_page (sym there ∙ is ∙ ap (λ (r : Row). route 0 (links_of r)) one.is)
  where
    same_page : Some q ≡ Some one.page → q ≡ one.page
    same_page e = cc

-- ---- the root as the code reads it

pub some_root_links : (dims : ℕ) (pages : PageMap) (t : IdTree) (id : ℕ) → TreeStands dims pages t
    → Has id t.row → 0 < length (links_of t.row)
some_root_links dims pages t id s there = some_links dims pages t.level t.row s.high s.below
    (some_there (objects_in t.row) there)
  where
    some_there : (xs : List Entry) → ¬ (kept_in id xs ≡ None) → 0 < length xs
    some_there [] there = absurd (there refl)
    some_there (x ∷ xs) there = omega arith

pub level_one : (dims : ℕ) (pages : PageMap) (t : IdTree) → TreeStands dims pages t
    → length (links_of t.row) ≤ 1 → t.level ≡ 1
level_one dims pages t s few = ⊎_elim
    (λ (one : t.level ≡ 1). one)
    (λ (other : ¬ (t.level ≡ 1)). let high = s.high in let two = s.wide (omega (arith, other, high)) in
    absurd (omega (arith, two, few)))
    (cases_eq t.level 1)

pub only_leaf : (dims : ℕ) (pages : PageMap) (t : IdTree) (id : ℕ) (named : Option ℕ) (leaf : ℕ)
    → TreeStands dims pages t → length (links_of t.row) ≤ 1
    → named ≡ route id (links_of t.row) → named ≡ Some leaf → IsOnly dims pages t leaf
only_leaf dims pages t id named leaf s few is at =
    let some = some_route (links_of t.row) (sym is ∙ at) in
    let one = only_child dims pages t.level t.row s.high s.below (omega (arith, some, few)) in
    let same : leaf ≡ one.page = same_page one.page
    (sym at ∙ is ∙ ap (λ (r : Row). route id (links_of r)) one.is) in
    record {
      stands = s;
      level_is = level_one dims pages t s few;
      key = one.key;
      below = one.below;
      is = one.is ∙ ap (λ p. more (child one.key p one.below) end) (sym same);
    }
  where
    same_page : (p : ℕ) → Some leaf ≡ Some p → leaf ≡ p
    same_page p e = cc

    some_route : (ls : List Link) → route id ls ≡ Some leaf → 0 < length ls
    some_route [] e = absurd (cc)
    some_route (x ∷ xs) e = omega arith

-- an identifier that was found in a leaf is there
found_some : (q : ℕ) (xs : List Entry) (n : ℕ) (k : Object) → n < length xs → get_or xs n some_object ≡ (q, k)
    → ¬ (kept_in q xs ≡ None)
found_some q [] n k within is none = omega (arith, within)
found_some q (x ∷ xs) zero k within is none =
    let same : eqb x.0 q ≡ true = is_same x.0 q (ap (λ (e : Entry). e.0) is) in
    let both = sym (ap (λ (b : Bool). cond b (Some x.1) (kept_in q xs)) same) ∙ none in
    absurd (cc)
found_some q (x ∷ xs) (suc n) k within is none =
    step (eqb x.0 q) none (found_some q xs n k (omega (arith, within)) is)
  where
    step : (b : Bool) → cond b (Some x.1) (kept_in q xs) ≡ None → ¬ (kept_in q xs ≡ None) → ⊥
    step true e rest = absurd (cc)
    step false e rest = rest e

pub has_found : (id : ℕ) (row : Row) (place : ℕ) (kept : Object) → HasAt id (objects_in row) place kept
    → Has id row
has_found id row place kept at = found_some id (objects_in row) place kept at.within (at.is some_object)
