-- A node that has settled: what stands, which pages moved, and what the code shows of it.
use Rattle.std.proofs.Common.{Result, Ok, Err, IfOk, IfSome, Option, Some, None, IsSome, ◌≡◌, ℕ, ◌+◌, ◌<◌}
use Rattle.std.proofs.Common.{◌≤◌, Bool, true, false, cond, eqb, List, [], ◌∷◌, ◌++◌, length, map, set}
use Rattle.std.proofs.Common.{reverse, All, refl, sym, ap, subst, ◌∙◌, ⊎_elim, arith}
use Rattle.std.specs.Prelude.{nat_le, nat_lt, ◌&&◌, not}
use Rattle.std.specs.Option.{option_map}
use Rattle.std.proofs.lemmas.Bool.{cases_eq}
use Rattle.std.proofs.lemmas.Bool.Decides.{nat_tests}
use Rattle.std.proofs.lemmas.List.{append-nil, length-map}
use Rattle.page_file.specs.Pages.{SameBut}
use Rattle.tree_node.specs.declared.node.Entry.{Entry}
use Rattle.tree_node.specs.Nodes.{Item, NodeContent, item_of}
use Rattle.tree_node.specs.Trees.{Row, end, more, Branch, object, child, row_items, occurs}
use Rattle.tree_node.specs.Rows.{row_of, item_in, occurs_on, Waiter, occurs_waiting}
use Rattle.tree_node.specs.Positions.{total, pick, AreParts}
use Rattle.tree_node.specs.Boxes.{least_box}
use Rattle.tree_node.proofs.RowLemmas.{items-row_of, occurs-row_of, occurs_one, occurs_here}
use Rattle.tree_node.proofs.PositionLemmas.{map-pick, parts_have_all, All-pick}
use Rattle.rstar_split.specs.Cuts.{Splits}
use Rattle.rstar_split.specs.Divided.{IsDividedBySplit}
use Rattle.rstar_split.proofs.SplitParts.{split_parts}
use Rattle.node_bytes.specs.Layout.{IsOfLevel, IsSpellable}
use Rattle.node_page.specs.Standing.{PageMap, HasNode, RowStands, node_in}
use Rattle.node_page.proofs.StandingLemmas.{row_stays, below_there, page_of_node}
use Rattle.node_page.specs.Parts.{Moves}
use Rattle.node_page.specs.Changes.{AllWait}
use Rattle.node_page.proofs.PartLemmas.{there_not_missing, none_or_some}
use Rattle.reinsert.specs.declared.settled.Settled.{Settled}
use Rattle.reinsert.specs.declared.waiting.Wait.{Wait}
use Rattle.reinsert.specs.Children.{occurs_at, Child}
use Rattle.reinsert.specs.Called.{is_called}
use Rattle.reinsert.specs.Far.{far_count, far_places, near_places, IsDividedFar}
use Rattle.reinsert.specs.Placing.{Outcome, waiting_on, reinserted}
use Rattle.reinsert.specs.Placed.{held_of, held_in, held_with, BesideStands, OutcomeStands, occurs_after}
use Rattle.reinsert.specs.Placed.{occurs_beside, CanSettle, SettlesTo, SplitsOff}
use Rattle.reinsert.proofs.StandLemmas.{RowStands-pick, zero_there, one_at_most}
use Rattle.reinsert.proofs.FarParts.{far_parts}
use Rattle.std.proofs.lemmas.List.Elements.{All-map}

-- ---- what waits

pub AllWait_frame : (dims : ℕ) (m m' : PageMap) (ws : List Waiter)
    → ((n : ℕ) → 0 < occurs_waiting n ws → m' n ≡ m n) → AllWait dims m ws → AllWait dims m' ws
AllWait_frame dims m m' [] same h = h
AllWait_frame dims m m' (w ∷ ws) same h = (
  row_stays dims m m' w.level (more w.branch end) (λ n p. same n (omega (arith, occurs_one n w.branch, p)))
      h.0,
  AllWait_frame dims m m' ws (λ n p. same n (omega (arith, p))) h.1,
)

pub AllWait-map : (dims : ℕ) (m : PageMap) (level : ℕ) (xs : List Branch)
    → RowStands dims m level (row_of xs) → AllWait dims m (waiting_on level xs)
AllWait-map dims m level [] h = tt
AllWait-map dims m level (object kept id ∷ xs) h = ((h.0, tt), AllWait-map dims m level xs h.1)
AllWait-map dims m level (child bounds page below ∷ xs) h =
    ((h.0, h.1, h.2, tt), AllWait-map dims m level xs h.3)

occurs_waiting-map : (n level : ℕ) (xs : List Branch)
    → occurs_waiting n (waiting_on level xs) ≡ total (occurs_on n) xs
occurs_waiting-map n level [] = refl
occurs_waiting-map n level (x ∷ xs) = omega (arith, occurs_waiting-map n level xs)

-- ---- each page of what a node became is live

pub is_some_from : {X : Type 0} (o : Option X) (x : X) → o ≡ Some x → IsSome o
is_some_from None x is = absurd (cc)
is_some_from (Some y) x is = refl

pub of_sum : (P : Type 0) (x y : ℕ) → 0 < x + y → (0 < x → P) → (0 < y → P) → P
of_sum P x y some a b = ⊎_elim (λ (none : x ≡ 0). b (omega (arith, some, none))) a (none_or_some x)

pub hit_live : (m : PageMap) (page n : ℕ) → IsSome (m page) → 0 < cond (eqb page n) 1 0 → IsSome (m n)
hit_live m page n live hit =
    ⊎_elim (λ (is : page ≡ n). subst (λ k. IsSome (m k)) is live)
    (λ differs. absurd (omega (arith, hit, zero_there page n differs))) (cases_eq page n)

pub waiting_live : (dims : ℕ) (m : PageMap) (ws : List Waiter) (n : ℕ) → AllWait dims m ws
    → 0 < occurs_waiting n ws → IsSome (m n)
waiting_live dims m [] n h there = absurd (omega (arith, there))
waiting_live dims m (w ∷ ws) n h there =
    of_sum (IsSome (m n)) (occurs_on n w.branch) (occurs_waiting n ws) there
    (λ some. below_there dims m w.level (more w.branch end) n h.0
    (omega (arith, some, occurs_one n w.branch)))
    (waiting_live dims m ws n h.1)

beside_live : (dims : ℕ) (m : PageMap) (level n : ℕ) (b : Option Child) → BesideStands dims m level b
    → 0 < occurs_beside n b → IsSome (m n)
beside_live dims m level n None k there = absurd (omega (arith, there))
beside_live dims m level n (Some c) k there =
    of_sum (IsSome (m n)) (cond (eqb c.page n) 1 0) (occurs n c.row) there
    (hit_live m c.page n (page_of_node dims (m c.page) _ k.0)) (below_there dims m level c.row n k.1)

pub outcome_live : (dims : ℕ) (m : PageMap) (page level : ℕ) (o : Outcome) (n : ℕ)
    → OutcomeStands dims m page level o → 0 < occurs_after page o n → IsSome (m n)
outcome_live dims m page level o n h some =
    of_sum (IsSome (m n)) (occurs_at page n o.row + occurs_beside n o.beside) (occurs_waiting n o.far) some
    (λ here. of_sum (IsSome (m n)) (occurs_at page n o.row) (occurs_beside n o.beside) here
    (λ row. of_sum (IsSome (m n)) (cond (eqb page n) 1 0) (occurs n o.row) row
    (hit_live m page n (page_of_node dims (m page) _ h.there)) (below_there dims m level o.row n h.below))
    (λ beside. beside_live dims m level n o.beside h.beside beside))
    (waiting_live dims m o.far n h.far)

-- ---- the node is written in its page, and what it had is in it or waits

module _ (dims : ℕ) (m m' : PageMap) (page level : ℕ) (branches : List Branch)
    (can : CanSettle dims m page level branches) (row : Row) (far : List Waiter) (called : List Bool)
    (stands : RowStands dims m level row) (wait : AllWait dims m far)
    (counts : (n : ℕ) → occurs n row + occurs_waiting n far ≡ occurs n (row_of branches))
    (written : HasNode dims m' page level row) (others : SameBut page m m') where
  apart : (n : ℕ) → 0 < occurs n (row_of branches) → ¬ (n ≡ page)
  apart n there is =
      absurd (omega
      (arith, can.distinct page, occurs_here page, subst (λ k. 0 < occurs k (row_of branches)) is there))

  elsewhere : (n : ℕ) → occurs_at page n (row_of branches) ≡ 0 → ¬ (n ≡ page)
  elsewhere n none is =
      absurd (omega (arith, occurs_here page, subst (λ k. occurs_at page k (row_of branches) ≡ 0) is none))

  pub written_stands : OutcomeStands dims m' page level
      (record { row = row; beside = None; far = far; called = called })
  written_stands = record {
    there = written;
    below = row_stays dims m m' level row (λ n p. others n (apart n (omega (arith, counts n, p)))) stands;
    beside = tt;
    far = AllWait_frame dims m m' far (λ n p. others n (apart n (omega (arith, counts n, p)))) wait;
  }

  pub written_moves : Moves m m' (λ n. occurs_at page n (row_of branches))
      (occurs_after page (record { row = row; beside = None; far = far; called = called }))
  written_moves = record {
    outside = λ n none same. others n (elsewhere n none);
    came = λ n none some. absurd (omega (arith, counts n, none, some));
    went = λ n some none. absurd (omega (arith, counts n, none, some));
    live = λ n some. outcome_live dims m' page level _ n written_stands some;
    once = λ n. omega (arith, counts n, can.distinct n);
  }

-- ---- the node is divided over its page and one that was not live

module _ (dims : ℕ) (m m' : PageMap) (page level number : ℕ) (branches first second : List Branch)
    (can : CanSettle dims m page level branches) (called : List Bool)
    (first_stands : RowStands dims m level (row_of first))
    (second_stands : RowStands dims m level (row_of second))
    (counts : (n : ℕ) → occurs n (row_of first) + occurs n (row_of second) ≡ occurs n (row_of branches))
    (off : SplitsOff dims m m' page number (record { level = level; entries = row_items (row_of first) })
    (record { level = level; entries = row_items (row_of second) })) where
  abbrev pub after_splitting : Outcome
  after_splitting =
      record {
        row = row_of first;
        beside = Some (record { page = number; row = row_of second });
        far = [];
        called = called;
      }

  unused : (n : ℕ) → IsSome (m n) → ¬ (n ≡ number)
  unused n live same = there_not_missing (m n) live (ap m same ∙ off.free)

  not_page : ¬ (number ≡ page)
  not_page same = unused page can.live (sym same)

  split_apart : (n : ℕ) → 0 < occurs n (row_of branches) → ¬ (n ≡ page)
  split_apart n there is =
      absurd (omega
      (arith, can.distinct page, occurs_here page, subst (λ k. 0 < occurs k (row_of branches)) is there))

  no_number : occurs number (row_of branches) ≡ 0
  no_number =
      ⊎_elim (λ none. none)
      (λ some. absurd
      (unused number (below_there dims m level (row_of branches) number can.stands some) refl))
      (none_or_some (occurs number (row_of branches)))

  within : (n : ℕ) → 0 < occurs n (row_of branches) → m' n ≡ m n
  within n there =
      off.others n (split_apart n there)
      (unused n (below_there dims m level (row_of branches) n can.stands there))

  pub split_stands : OutcomeStands dims m' page level after_splitting
  split_stands = record {
    there = off.first_there;
    below = row_stays dims m m' level (row_of first) (λ n p. within n (omega (arith, counts n, p)))
        first_stands;
    beside = (
      off.second_there,
      row_stays dims m m' level (row_of second) (λ n p. within n (omega (arith, counts n, p)))
          second_stands,
    );
    far = tt;
  }

  none_here : (n : ℕ) → occurs_at page n (row_of branches) ≡ 0 → ¬ (n ≡ page)
  none_here n none is =
      absurd (omega (arith, occurs_here page, subst (λ k. occurs_at page k (row_of branches) ≡ 0) is none))

  pub split_moves : Moves m m' (λ n. occurs_at page n (row_of branches)) (occurs_after page after_splitting)
  split_moves = record {
    outside =
        λ n none none'. off.others n (none_here n none)
        (λ is. absurd
        (omega (arith, occurs_here number, subst (λ k. occurs_after page after_splitting k ≡ 0) is none')));
    came = λ n none some. ⊎_elim (λ is. ap m (sym is) ∙ off.free)
        (λ differs. absurd (omega (arith, counts n, none, some, zero_there number n differs)))
        (cases_eq number n);
    went = λ n some none. absurd (omega (arith, counts n, none, some));
    live = λ n some. outcome_live dims m' page level after_splitting n split_stands some;
    once = λ n. ⊎_elim
        (λ is. omega (
          arith,
          counts n,
          subst (λ k. occurs k (row_of branches) ≡ 0) is no_number,
          one_at_most number n,
          zero_there page n (λ same. not_page (is ∙ sym same)),
        ))
        (λ differs. omega (arith, counts n, can.distinct n, zero_there number n differs))
        (cases_eq number n);
  }

-- a page comes in and is written, and then the node's own page is written
pub splits_off : (dims : ℕ) (m m1 m2 m3 : PageMap) (page number : ℕ) (first second : NodeContent)
    → IsSome (m page) → m number ≡ None → SameBut number m m1 → node_in dims (m2 number) ≡ Some second
    → SameBut number m1 m2
    → node_in dims (m3 page) ≡ Some first → SameBut page m2 m3 → SplitsOff dims m m3 page number first second
splits_off dims m m1 m2 m3 page number first second live free came second_there wrote first_there after =
    let differs : ¬ (number ≡ page) = λ is. there_not_missing (m page) live (ap m (sym is) ∙ free) in
    record {
      free = free;
      first_there = first_there;
      second_there = ap (node_in dims) (after number differs) ∙ second_there;
      others = λ k a b. after k a ∙ wrote k b ∙ came k b;
    }

-- ---- what the code did in each case, over plain values

held-waiting_on : {D : ℕ} (level : ℕ) (xs : List Branch) (es : List (Entry D))
    → map item_of es ≡ map item_in xs → map (held_with level) es ≡ map held_in (waiting_on level xs)
held-waiting_on level [] [] h = refl
held-waiting_on level [] (e ∷ es) h = absurd (cc)
held-waiting_on level (x ∷ xs) [] h = absurd (cc)
held-waiting_on level (x ∷ xs) (e ∷ es) h =
    let first : item_of e ≡ item_in x = cc in
    let rest : map item_of es ≡ map item_in xs = cc in
    let others = held-waiting_on level xs es rest in
    let held : held_with level e ≡ held_in (record { branch = x; level = level }) = rw first refl in
    cc

-- a node of at most the most entries stands as it is, or is written
pub items_settled : {D : ℕ} (most top level : ℕ) (called : List Bool) (branches : List Branch)
    (items : List Item) (m m' : PageMap) (page : ℕ) (settled : Settled D) (waits waits' : List (Wait D))
    (called' : List Bool)
    → map item_in branches ≡ items → CanSettle D m page level branches → length items ≤ most
    → settled.bounds ≡ least_box D items → settled.beside ≡ None → waits' ≡ waits → called' ≡ called
    → node_in D (m' page) ≡ Some (record { level = level; entries = items }) → SameBut page m m'
    → SettlesTo D most top level called branches m m' page settled waits waits' called'
items_settled {D} most top level called branches items m m' page settled waits waits' called' are can few
    bounds beside far calls there others =
    let here : row_items (row_of branches) ≡ items = items-row_of branches ∙ are in
    let written : HasNode D m' page level (row_of branches) = there
    ∙ ap (λ (es : List Item). Some (record { level = level; entries = es })) (sym here) in
    let counts : (n : ℕ) → occurs n (row_of branches) + 0 ≡ occurs n (row_of branches) = λ n. omega arith in
    let size : length branches ≡ length items = sym (length-map branches item_in) ∙ ap length are in
    let test : nat_le (length branches) most ≡ true = grind (arith, nat_tests, size, few) in
    record {
      outcome = record { row = row_of branches; beside = None; far = []; called = called };
      settles = rw test refl;
      stands =
          written_stands D m m' page level branches can (row_of branches) [] called can.stands tt counts
          written others;
      moves = written_moves D m m' page level branches can (row_of branches) [] called can.stands tt counts
          written others;
      shows = record {
        bounds = bounds ∙ ap (least_box D) (sym here);
        beside = ap (option_map item_of) beside;
        far = ap (map held_of) far ∙ sym (append-nil (map held_of waits));
        calls = calls;
      };
    }

module _ {D : ℕ} (most top level : ℕ) (called : List Bool) (branches : List Branch)
    (entries : List (Entry D)) (m m' : PageMap) (page : ℕ) (settled : Settled D)
    (waits waits' : List (Wait D)) (called' : List Bool)
    (are : map item_in branches ≡ map item_of entries) (can : CanSettle D m page level branches) where
  length_branches : length branches ≡ length entries
  length_branches = sym (length-map branches item_in) ∙ ap length are ∙ length-map entries item_of

  -- the entries at some positions, as the row of them has them
  picked : (places : List ℕ) → map item_of (pick entries places) ≡ row_items (row_of (pick branches places))
  picked places = map-pick item_of entries places ∙ ap (λ (xs : List Item). pick xs places) (sym are)
      ∙ sym (map-pick item_in branches places) ∙ sym (items-row_of (pick branches places))

  pub fits_settled : length entries ≤ most → settled.bounds ≡ least_box D (map item_of entries)
      → settled.beside ≡ None → waits' ≡ waits → called' ≡ called
      → node_in D (m' page) ≡ Some (record { level = level; entries = map item_of entries })
      → SameBut page m m' → SettlesTo D most top level called branches m m' page settled waits waits' called'
  fits_settled few bounds beside far calls there others =
      items_settled most top level called branches (map item_of entries) m m' page settled waits waits'
      called' are can (omega (arith, few, length-map entries item_of)) bounds beside far calls there
      others

  pub far_settled : (near far : List (Entry D)) → IsDividedFar D (far_count most) entries near far
      → length entries ≡ most + 1 → level < top → is_called called level ≡ false
      → settled.bounds ≡ least_box D (map item_of near) → settled.beside ≡ None
      → map held_of waits' ≡ map held_of waits ++ reverse (map (held_with level) far)
      → called' ≡ set called level true
      → node_in D (m' page) ≡ Some (record { level = level; entries = map item_of near }) → SameBut page m m'
      → SettlesTo D most top level called branches m m' page settled waits waits' called'
  far_settled near far divided many below not_called bounds beside waiting calls there others =
      let items = map item_in branches in
      let p = far_count most in
      let kept = pick branches (near_places D p items) in
      let gone = pick branches (far_places D p items) in
      let waits_on = waiting_on level gone in
      let near_shown : map item_of near ≡ row_items (row_of kept) =
      ap (map item_of)
      (divided.near_is ∙ ap (λ (es : List Item). pick entries (near_places D p es)) (sym are))
      ∙ picked (near_places D p items) in
      let far_shown : map item_of far ≡ map item_in gone =
      ap (map item_of) (divided.far_is ∙ ap (λ (es : List Item). pick entries (far_places D p es)) (sym are))
      ∙ picked (far_places D p items) ∙ items-row_of gone in
      let parts : AreParts (near_places D p items) (far_places D p items) (length branches) =
      rw (length-map branches item_in) at (far_parts D p items) in
      let written : HasNode D m' page level (row_of kept) = there
      ∙ ap (λ (es : List Item). Some (record { level = level; entries = es })) near_shown in
      let counts : (n : ℕ) → occurs n (row_of kept) + occurs_waiting n waits_on ≡ occurs n (row_of branches) =
      λ n. omega (
        arith,
        occurs-row_of n kept,
        occurs_waiting-map n level gone,
        occurs-row_of n branches,
        parts_have_all (occurs_on n) branches (near_places D p items) (far_places D p items) parts,
      ) in
      let stands = RowStands-pick D m level branches (near_places D p items) can.stands in
      let wait =
      AllWait-map D m level gone (RowStands-pick D m level branches (far_places D p items) can.stands) in
      let test : nat_le (length branches) most ≡ false = grind (arith, nat_tests, length_branches, many) in
      let test' : nat_lt level top
      && not (is_called called level) ≡ true = grind (arith, nat_tests, not_called, below) in
      record {
        outcome = reinserted D most level called branches;
        settles = rw (test, test') refl;
        stands =
            written_stands D m m' page level branches can (row_of kept) waits_on (set called level true)
            stands wait counts written others;
        moves = written_moves D m m' page level branches can (row_of kept) waits_on (set called level true)
            stands wait counts written others;
        shows = record {
          bounds = bounds ∙ ap (least_box D) near_shown;
          beside = ap (option_map item_of) beside;
          far = waiting
              ∙ ap (λ hs. map held_of waits ++ reverse hs) (held-waiting_on level gone far far_shown);
          calls = calls;
        };
      }

  pub split_settled : (number : ℕ) (beside : Entry D) (first second : List (Entry D))
      → IsDividedBySplit D most entries first second → length entries ≡ most + 1
      → (level < top → is_called called level ≡ true)
      → settled.bounds ≡ least_box D (map item_of first) → settled.beside ≡ Some beside
      → item_of beside ≡ record { bounds = least_box D (map item_of second); reference = number; tag = 0 }
      → waits' ≡ waits → called' ≡ set called level true
      → SplitsOff D m m' page number (record { level = level; entries = map item_of first })
      (record { level = level; entries = map item_of second })
      → SettlesTo D most top level called branches m m' page settled waits waits' called'
  split_settled number beside first second divided many held bounds beside_is beside_item far calls off =
      let items = map item_in branches in
      let splits : Splits D most items divided.places divided.others =
      subst (λ es. Splits D most es divided.places divided.others) (sym are) divided.splits in
      let one = pick branches divided.places in
      let two = pick branches divided.others in
      let first_shown : map item_of first ≡ row_items (row_of one) = ap (map item_of) divided.first_is
      ∙ picked divided.places in
      let second_shown : map item_of second ≡ row_items (row_of two) = ap (map item_of) divided.second_is
      ∙ picked divided.others in
      let parts : AreParts divided.places divided.others (length branches) =
      rw (length-map branches item_in) at
      (split_parts D most items divided.places divided.others splits) in
      let counts : (n : ℕ) → occurs n (row_of one) + occurs n (row_of two) ≡ occurs n (row_of branches) =
      λ n. omega (
        arith,
        occurs-row_of n one,
        occurs-row_of n two,
        occurs-row_of n branches,
        parts_have_all (occurs_on n) branches divided.places divided.others parts,
      ) in
      let off' : SplitsOff D m m' page number (record { level = level; entries = row_items (row_of one) })
      (record { level = level; entries = row_items (row_of two) }) =
      subst (λ es. SplitsOff D m m' page number (record { level = level; entries = es })
      (record { level = level; entries = row_items (row_of two) })) first_shown
      (subst (λ es. SplitsOff D m m' page number (record { level = level; entries = map item_of first })
      (record { level = level; entries = es })) second_shown off) in
      let first_stands = RowStands-pick D m level branches divided.places can.stands in
      let second_stands = RowStands-pick D m level branches divided.others can.stands in
      let test : nat_le (length branches) most ≡ false = grind (arith, nat_tests, length_branches, many) in
      let test' : nat_lt level top && not (is_called called level) ≡ false = grind (arith, nat_tests, held) in
      record {
        outcome =
            record {
              row = row_of one;
              beside = Some (record { page = number; row = row_of two });
              far = [];
              called = set called level true;
            };
        settles =
            rw (test, test')
            (record {
              page = number;
              first = divided.places;
              second = divided.others;
              splits = splits;
              is = refl;
            });
        stands =
            split_stands D m m' page level number branches one two can (set called level true) first_stands
            second_stands counts off';
        moves = split_moves D m m' page level number branches one two can (set called level true)
            first_stands second_stands counts off';
        shows = record {
          bounds = bounds ∙ ap (least_box D) first_shown;
          beside = ap (option_map item_of) beside_is
              ∙ ap Some
              (beside_item
              ∙ ap (λ (es : List Item). record { bounds = least_box D es; reference = number; tag = 0 })
              second_shown);
          far = ap (map held_of) far ∙ sym (append-nil (map held_of waits));
          calls = calls;
        };
      }

-- ---- what may be written

pub spellable_of : {D : ℕ} (level : ℕ) (entries : List (Entry D)) → length entries ≤ 100 → 0 < length entries
    → All (λ (e : Entry D). IsOfLevel level e.reference e.tag) entries
    → IsSpellable (record { level = level; entries = map item_of entries })
spellable_of level entries few some refers = record {
  few = omega (arith, length-map entries item_of, few);
  some = λ above. omega (arith, length-map entries item_of, some);
  refers = All-map (λ (item : Item). IsOfLevel level item.reference item.tag) item_of entries refers;
}

pub All-part : {D : ℕ} (level : ℕ) (entries part : List (Entry D)) (places : List ℕ)
    → part ≡ pick entries places → All (λ (e : Entry D). IsOfLevel level e.reference e.tag) entries
    → All (λ (e : Entry D). IsOfLevel level e.reference e.tag) part
All-part {D} level entries part places is h =
    let P : Entry D → Type 0 = λ e. IsOfLevel level e.reference e.tag in
    subst (λ xs. All P xs) (sym is) (All-pick P entries places h)

-- where nothing was split off, nothing is said of it
pub none_refers : {D : ℕ} {E : Type 0} (r : Result (Settled D) E) (P : Entry D → Type 0)
    → IfOk r (λ s. s.beside ≡ None) → IfOk r (λ s. IfSome s.beside P)
none_refers (Ok s) P none = subst (λ o. IfSome o P) (sym none) tt
none_refers (Err e) P none = tt
