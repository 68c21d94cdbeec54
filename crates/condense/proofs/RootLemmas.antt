-- The root written, what is kept inserted, and the root lowered: a removal.
use Rattle.std.proofs.Common.{◌≡◌, ◌∙◌, ℕ, ◌+◌, ◌<◌, ◌≤◌, IsSome, Some, List, refl, sym, ap, subst, arith}
use Rattle.box_math.specs.Objects.{Object}
use Rattle.page_file.specs.Pages.{SameBut}
use Rattle.tree_node.specs.declared.node.Root.{Root}
use Rattle.tree_node.specs.Nodes.{Item, NodeContent}
use Rattle.tree_node.specs.Rows.{occurs_waiting}
use Rattle.tree_node.specs.Trees.{Tree, occurs, occurs_in}
use Rattle.tree_node.proofs.RowLemmas.{occurs_here}
use Rattle.node_page.specs.Parts.{Moves, one_page}
use Rattle.node_page.specs.Standing.{PageMap, HasNode, node_in}
use Rattle.node_page.proofs.PartLemmas.{moves_in_turn, moves_same}
use Rattle.node_page.proofs.StandingLemmas.{page_of_node, row_stays}
use Rattle.reinsert.specs.Placed.{Held}
use Rattle.reinsert.proofs.SettledLemmas.{AllWait_frame, hit_live, of_sum}
use Rattle.reinsert.proofs.StandLemmas.{moves_with, rest_once, rest_same}
use Rattle.condense.specs.Filled.{CanFill, FillsTo, GivesWayTo}
use Rattle.condense.specs.Removed.{RemovesTo, TookOut}

-- the root as it is written
abbrev pub cut_root : {dims most : ℕ} {m m1 : PageMap} {root : Root} {t : Tree} {elsewhere : ℕ → ℕ} {id : ℕ}
    {removed : Object} {held : List Held} {items : List Item}
    → TookOut dims most m m1 root t elsewhere id removed held items → Tree
cut_root {t = t} took = record { page = t.page; level = t.level; row = took.taken.out.row }

module _ (dims most : ℕ) (m m1 : PageMap) (root : Root) (t : Tree) (elsewhere : ℕ → ℕ) (id : ℕ)
    (removed : Object) (held : List Held) (items : List Item)
    (took : TookOut dims most m m1 root t elsewhere id removed held items) where
  abbrev rest : ℕ → ℕ
  rest n = one_page t.page n + elsewhere n

  abbrev new : ℕ → ℕ
  new n = occurs n took.taken.out.row + occurs_waiting n took.taken.out.kept

  apart : (n : ℕ) → occurs n t.row + rest n ≤ 1
  apart n = omega (arith, took.can.apart n)

  live : (n : ℕ) → 0 < rest n → IsSome (m n)
  live n there =
      of_sum (IsSome (m n)) (one_page t.page n) (elsewhere n) there
      (hit_live m t.page n (page_of_node dims (m t.page) _ took.can.stands.root)) (took.can.live n)

  same : (n : ℕ) → 0 < rest n → m1 n ≡ m n
  same = rest_same m m1 (λ n. occurs n t.row) new rest took.taken.moves apart live

  once : (n : ℕ) → new n + rest n ≤ 1
  once = rest_once m m1 (λ n. occurs n t.row) new rest took.taken.moves apart live

  framed : Moves m m1 (λ n. occurs n t.row + rest n) (λ n. new n + rest n)
  framed = moves_with m m1 (λ n. occurs n t.row) new rest took.taken.moves apart live

  module _ (m2 : PageMap) (level : ℕ) (is : level ≡ root.level)
      (there : node_in dims (m2 root.page) ≡ Some (record { level = level; entries = items }))
      (others : SameBut root.page m1 m2) where
    away : (n : ℕ) → one_page t.page n ≡ 0 → m2 n ≡ m1 n
    away n none =
        others n
        (λ root_is. omega
        (arith, none, ap (λ k. one_page k n) (took.can.at.page ∙ sym root_is), occurs_here n))

    written : HasNode dims m2 t.page t.level took.taken.out.row
    written = ap (λ n. node_in dims (m2 n)) took.can.at.page ∙ there
        ∙ ap (λ (l : ℕ). Some (let c : NodeContent = record { level = l; entries = items } in c))
        (is ∙ sym took.can.at.level)
        ∙ ap (λ (xs : List Item). Some (let c : NodeContent = record { level = t.level; entries = xs } in c))
        took.taken.entries

    pub can_fill : CanFill dims m2 root (cut_root took) took.taken.out.kept elsewhere held
    can_fill = record {
      at = record { page = took.can.at.page; level = took.can.at.level };
      stands = record {
        root = written;
        below = row_stays dims m1 m2 t.level took.taken.out.row
            (λ n there. away n (omega (arith, there, once n))) took.taken.below;
        distinct = λ n. omega (arith, once n);
      };
      wait = AllWait_frame dims m1 m2 took.taken.out.kept (λ n there. away n (omega (arith, there, once n)))
          took.taken.kept;
      apart = λ n. omega (arith, once n);
      live = λ n there. subst IsSome
          (sym (away n (omega (arith, there, once n)) ∙ same n (omega (arith, there))))
          (took.can.live n there);
      holds = took.taken.holds;
    }

    root_moves : Moves m m2 (λ n. occurs_in n t)
        (λ n. occurs_in n (cut_root took) + occurs_waiting n took.taken.out.kept)
    root_moves =
        let first : Moves m m1 (λ n. occurs_in n t) (λ n. new n + one_page t.page n) =
        moves_same m m1 _ _ _ _ (λ n. omega arith) (λ n. refl)
        (moves_with m m1 (λ n. occurs n t.row) new (one_page t.page) took.taken.moves
        (λ n. omega (arith, apart n)) (λ n some. live n (omega (arith, some)))) in
        let second : Moves m1 m2 (λ n. new n + one_page t.page n) (λ n. new n + one_page t.page n) = record {
          outside = λ n p q. away n (omega (arith, p));
          came = λ n p q. absurd (omega (arith, p, q));
          went = λ n p q. absurd (omega (arith, p, q));
          live = λ n some. of_sum (IsSome (m2 n)) (new n) (one_page t.page n) some
              (λ p. subst IsSome (sym (away n (omega (arith, p, once n)))) (first.live n some))
              (hit_live m2 t.page n (page_of_node dims (m2 t.page) _ written));
          once = λ n. omega (arith, once n);
        } in
        moves_same m m2 _ _ _ _ (λ n. refl) (λ n. omega arith) (moves_in_turn m m1 m2 _ _ _ first second)

    -- the whole removal
    pub removes_to : (m3 m4 : PageMap) (filled after : Root)
        (f : FillsTo dims most m2 m3 (cut_root took) took.taken.out.kept elsewhere filled)
        → GivesWayTo dims m3 m4 f.new after → RemovesTo dims most m m4 elsewhere id removed t after
    removes_to m3 m4 filled after f gives = record {
      new = gives.new;
      at = gives.at;
      stands = gives.stands;
      removal = record {
        out = took.taken.out;
        takes_out = took.taken.takes_out;
        filled = f.new;
        inserted = f.inserted;
        count = gives.count;
        lowered = gives.lowered;
      };
      moves = moves_in_turn m m2 m4 _ _ _ root_moves (moves_in_turn m2 m3 m4 _ _ _ f.moves gives.moves);
    }
