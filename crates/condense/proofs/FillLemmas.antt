-- What is kept is inserted, one entry after the other.
use Rattle.std.proofs.Common.{◌≡◌, ◌∙◌, ℕ, ◌+◌, ◌<◌, ◌≤◌, IsSome, List, [], ◌∷◌, ◌++◌, map, reverse, refl}
use Rattle.std.proofs.Common.{sym, ap, subst, arith}
use Rattle.std.proofs.lemmas.List.{reverse-append}
use Rattle.tree_node.specs.declared.node.Root.{Root}
use Rattle.tree_node.specs.Boxes.{RowHasBoxes}
use Rattle.tree_node.specs.Nodes.{Item}
use Rattle.tree_node.specs.Rows.{Waiter, item_in, occurs_on, occurs_waiting}
use Rattle.tree_node.specs.Shape.{HasLooseShape}
use Rattle.tree_node.specs.Trees.{Tree, end, more, occurs_in}
use Rattle.node_page.specs.Changes.{AllWait}
use Rattle.node_page.specs.Parts.{Moves}
use Rattle.node_page.specs.Standing.{PageMap, RowStands}
use Rattle.node_page.proofs.PartLemmas.{moves_in_turn, moves_same, staying_moves}
use Rattle.node_page.proofs.StandingLemmas.{pages_are_there}
use Rattle.reinsert.specs.Inserted.{CanInsert, InsertsTo}
use Rattle.reinsert.specs.Insertion.{IsInsertion}
use Rattle.reinsert.specs.Kept.{AllHaveShape, EntryHasShape}
use Rattle.reinsert.specs.Placed.{Held, held_in}
use Rattle.reinsert.proofs.SettledLemmas.{AllWait_frame, of_sum, waiting_live}
use Rattle.reinsert.proofs.ShapeLemmas.{insertion_keeps_loose_shape}
use Rattle.reinsert.proofs.StandLemmas.{moves_with, rest_once, rest_same}
use Rattle.condense.specs.Filled.{CanFill, CanFillShaped, FillsTo}
use Rattle.condense.specs.Removal.{AreInserted}

-- so much of what is kept was inserted
pub record Filled (dims most : ℕ) (m m1 : PageMap) (t : Tree) (ws : List Waiter) (elsewhere : ℕ → ℕ)
    (now : Root) (held : List Held) : Type 0 where
  pub mid : Tree
  pub rest : List Waiter
  pub can : CanFill dims m1 now mid rest elsewhere held
  pub moves : Moves m m1 (λ n. occurs_in n t + occurs_waiting n ws)
      (λ n. occurs_in n mid + occurs_waiting n rest)
  pub goes : (new : Tree) → AreInserted dims most elsewhere rest mid new
      → AreInserted dims most elsewhere ws t new
  pub shaped : CanFillShaped dims most t ws → CanFillShaped dims most mid rest

pub filled_first : (dims most : ℕ) (m : PageMap) (t : Tree) (ws : List Waiter) (elsewhere : ℕ → ℕ)
    (root : Root) (held : List Held) → CanFill dims m root t ws elsewhere held
    → Filled dims most m m t ws elsewhere root held
filled_first dims most m t ws elsewhere root held can = record {
  mid = t;
  rest = ws;
  can = can;
  moves = staying_moves m m (λ n. occurs_in n t + occurs_waiting n ws) (λ n. refl)
      (λ n. omega (arith, can.apart n))
      (λ n there. of_sum (IsSome (m n)) (occurs_in n t) (occurs_waiting n ws) there
      (pages_are_there dims m t n can.stands) (waiting_live dims m ws n can.wait));
  goes = λ new h. h;
  shaped = λ s. s;
}

-- ---- the first of those that are kept

some_last : {A : Type 0} (xs : List A) (x : A) → [] ≡ xs ++ x ∷ [] → ⊥
some_last [] x e = absurd (cc)
some_last (y ∷ ys) x e = absurd (cc)

snoc_same : {A : Type 0} (xs ys : List A) (x y : A) → xs ++ x ∷ [] ≡ ys ++ y ∷ [] → (xs ≡ ys) × (x ≡ y)
snoc_same [] [] x y h = (refl, cc)
snoc_same [] (b ∷ ys) x y h = let rest : [] ≡ ys ++ y ∷ [] = cc in absurd (some_last ys y rest)
snoc_same (a ∷ xs) [] x y h = let rest : [] ≡ xs ++ x ∷ [] = cc in absurd (some_last xs x rest)
snoc_same (a ∷ xs) (b ∷ ys) x y h =
    let heads : a ≡ b = cc in
    let tails : xs ++ x ∷ [] ≡ ys ++ y ∷ [] = cc in
    let parts = snoc_same xs ys x y tails in
    let lists = parts.0 in (cc, parts.1)

record First (held : List Held) (first : Held) (all : List Waiter) : Type 0 where
  w : Waiter
  ws : List Waiter
  all_is : all ≡ w ∷ ws
  is : first ≡ held_in w
  holds : held ≡ reverse (map held_in ws)

first_of : (held : List Held) (first : Held) (all : List Waiter)
    → held ++ first ∷ [] ≡ reverse (map held_in all) → First held first all
first_of held first [] h = absurd (some_last held first (sym h))
first_of held first (w ∷ ws) h =
    let same =
    snoc_same held (reverse (map held_in ws)) first (held_in w)
    (h ∙ reverse-append (held_in w ∷ []) (map held_in ws)) in
    record { w = w; ws = ws; all_is = refl; is = same.1; holds = same.0 }

none_kept : (ws : List Waiter) → [] ≡ reverse (map held_in ws) → ws ≡ []
none_kept [] h = refl
none_kept (w ∷ ws) h =
    absurd (some_last (reverse (map held_in ws)) (held_in w)
    (h ∙ reverse-append (held_in w ∷ []) (map held_in ws)))

kept_higher : (dims most top top' : ℕ) (ws : List Waiter) → top ≤ top' → AllHaveShape dims most top ws
    → AllHaveShape dims most top' ws
kept_higher dims most top top' [] higher h = tt
kept_higher dims most top top' (w ∷ ws) higher h =
    (omega (arith, higher, h.0), h.1, kept_higher dims most top top' ws higher h.2)

-- the entry that comes now, and what an insertion needs of it
pub record Comes (dims most : ℕ) (m m1 : PageMap) (t : Tree) (ws : List Waiter) (elsewhere : ℕ → ℕ)
    (now : Root) (item : Item) (level : ℕ) (held : List Held)
    (f : Filled dims most m m1 t ws elsewhere now
    (held ++ record { item = item; level = level } ∷ [])) : Type 0 where
  pub w : Waiter
  pub ws' : List Waiter
  pub all_is : f.rest ≡ w ∷ ws'
  pub level_is : w.level ≡ level
  pub item_is : item_in w.branch ≡ item
  pub holds : held ≡ reverse (map held_in ws')
  pub wait : AllWait dims m1 (w ∷ ws')
  pub apart : (n : ℕ) → occurs_in n f.mid + (occurs_on n w.branch + occurs_waiting n ws') + elsewhere n ≤ 1

pub comes : (dims most : ℕ) (m m1 : PageMap) (t : Tree) (ws : List Waiter) (elsewhere : ℕ → ℕ) (now : Root)
    (item : Item) (level : ℕ) (held : List Held)
    (f : Filled dims most m m1 t ws elsewhere now (held ++ record { item = item; level = level } ∷ []))
    → Comes dims most m m1 t ws elsewhere now item level held f
comes dims most m m1 t ws elsewhere now item level held f =
    let r = first_of held (record { item = item; level = level }) f.rest f.can.holds in
    record {
      w = r.w;
      ws' = r.ws;
      all_is = r.all_is;
      level_is = ap (λ (h : Held). h.level) (sym r.is);
      item_is = ap (λ (h : Held). h.item) (sym r.is);
      holds = r.holds;
      wait = subst (AllWait dims m1) r.all_is f.can.wait;
      apart = λ n. subst (λ xs. occurs_in n f.mid + occurs_waiting n xs + elsewhere n ≤ 1) r.all_is
          (f.can.apart n);
    }

module _ (dims most : ℕ) (m m1 : PageMap) (t : Tree) (ws : List Waiter) (elsewhere : ℕ → ℕ) (now : Root)
    (item : Item) (level : ℕ) (held : List Held)
    (f : Filled dims most m m1 t ws elsewhere now (held ++ record { item = item; level = level } ∷ []))
    (c : Comes dims most m m1 t ws elsewhere now item level held f) where
  abbrev others : ℕ → ℕ
  others n = occurs_waiting n c.ws' + elsewhere n

  others_live : (n : ℕ) → 0 < others n → IsSome (m1 n)
  others_live n p =
      of_sum (IsSome (m1 n)) (occurs_waiting n c.ws') (elsewhere n) p (waiting_live dims m1 c.ws' n c.wait.1)
      (f.can.live n)

  pub can_insert : level ≤ now.level
      → CanInsert dims m1 now item level f.mid c.w.branch (λ n. occurs_waiting n c.ws' + elsewhere n)
  can_insert fits = record {
    at = f.can.at;
    stands = f.can.stands;
    entry = c.item_is;
    entry_stands = subst (λ l. RowStands dims m1 l (more c.w.branch end)) c.level_is c.wait.0;
    fits = omega (arith, fits, f.can.at.level);
    apart = λ n. omega (arith, c.apart n);
    live = others_live;
  }

  -- its shape
  pub comes_shaped : CanFillShaped dims most t ws
      → (level ≤ f.mid.level) × HasLooseShape dims most f.mid × RowHasBoxes dims f.mid.row
      × EntryHasShape dims most level c.w.branch
  comes_shaped start =
      let s = f.shaped start in
      let kept : AllHaveShape dims most f.mid.level (c.w ∷ c.ws') =
      subst (AllHaveShape dims most f.mid.level) c.all_is s.kept in (
        omega (arith, kept.0, c.level_is),
        s.tree,
        s.boxes,
        subst (λ l. EntryHasShape dims most l c.w.branch) c.level_is kept.1,
      )

  -- one more was inserted
  pub filled_more : (m2 : PageMap) (after : Root) → now.level ≤ after.level → 2 ≤ most
      → InsertsTo dims most m1 m2 level f.mid c.w.branch (λ n. occurs_waiting n c.ws' + elsewhere n) after
      → Filled dims most m m2 t ws elsewhere after held
  filled_more m2 after rises enough done =
      let apart : (n : ℕ)
      → (occurs_in n f.mid + occurs_on n c.w.branch) + others n ≤ 1 = λ n. omega (arith, c.apart n) in
      let same : (n : ℕ) → 0 < others n
      → m2 n ≡ m1 n = rest_same m1 m2 _ _ others done.moves apart others_live in
      let once : (n : ℕ)
      → occurs_in n done.new + others n ≤ 1 = rest_once m1 m2 _ _ others done.moves apart others_live in
      let insertion : IsInsertion dims most (λ n. occurs_waiting n c.ws' + elsewhere n) c.w.branch c.w.level
      f.mid done.new =
      subst (λ l. IsInsertion dims most (λ n. occurs_waiting n c.ws' + elsewhere n) c.w.branch l f.mid
      done.new) (sym c.level_is) done.insertion in
      let step : Moves m1 m2 (λ n. occurs_in n f.mid + occurs_waiting n f.rest)
      (λ n. occurs_in n done.new + occurs_waiting n c.ws') =
      moves_same m1 m2 _ _ _ _ (λ n. omega (arith, ap (occurs_waiting n) c.all_is)) (λ n. refl)
      (moves_with m1 m2 _ _ (λ n. occurs_waiting n c.ws') done.moves (λ n. omega (arith, apart n))
      (λ n there. others_live n (omega (arith, there)))) in
      record {
        mid = done.new;
        rest = c.ws';
        can = record {
          at = done.at;
          stands = done.stands;
          wait = AllWait_frame dims m1 m2 c.ws' (λ n there. same n (omega (arith, there))) c.wait.1;
          apart = λ n. omega (arith, once n);
          live = λ n there. subst IsSome (sym (same n (omega (arith, there)))) (f.can.live n there);
          holds = c.holds;
        };
        moves = moves_in_turn m m1 m2 _ _ _ f.moves step;
        goes = λ new later. f.goes new
            (subst (λ xs. AreInserted dims most elsewhere xs f.mid new) (sym c.all_is)
            (done.new, insertion, later));
        shaped = λ start.
            let s = f.shaped start in
            let kept : AllHaveShape dims most f.mid.level (c.w ∷ c.ws') =
            subst (AllHaveShape dims most f.mid.level) c.all_is s.kept in
            let both =
            insertion_keeps_loose_shape dims most (λ n. occurs_waiting n c.ws' + elsewhere n) c.w.branch
            c.w.level f.mid done.new insertion enough kept.1 s.boxes s.tree in
            record {
              tree = both.0;
              boxes = both.1;
              kept = kept_higher dims most f.mid.level done.new.level c.ws'
                  (omega (arith, rises, f.can.at.level, done.at.level)) kept.2;
            };
      }

-- nothing is left
pub filled_end : (dims most : ℕ) (m m1 : PageMap) (t : Tree) (ws : List Waiter) (elsewhere : ℕ → ℕ)
    (now : Root) (held : List Held) → Filled dims most m m1 t ws elsewhere now held → held ≡ []
    → FillsTo dims most m m1 t ws elsewhere now
filled_end dims most m m1 t ws elsewhere now held f none =
    let left : f.rest ≡ [] = none_kept f.rest (sym none ∙ f.can.holds) in
    record {
      new = f.mid;
      at = f.can.at;
      stands = f.can.stands;
      inserted = f.goes f.mid (subst (λ xs. AreInserted dims most elsewhere xs f.mid f.mid) (sym left) refl);
      moves = moves_same m m1 _ _ _ _ (λ n. refl) (λ n. omega (arith, ap (occurs_waiting n) left)) f.moves;
    }
