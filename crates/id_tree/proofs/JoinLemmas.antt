-- Two children next to one another became one, or two others.
use Rattle.std.proofs.Common.{◌≡◌, ◌∙◌, ℕ, ◌+◌, ◌-◌, ◌<◌, ◌≤◌, Bool, false, cond, eqb, Some, None, IsSome}
use Rattle.std.proofs.Common.{List, ◌∷◌, ◌++◌, length, set, All, refl, sym, ap, subst, ⊎_elim, arith}
use Rattle.std.proofs.Common.{append_assoc, length-append}
use Rattle.std.proofs.lemmas.Bool.{cases_eq}
use Rattle.std.proofs.lemmas.List.{append-nil, set-append_right}
use Rattle.std.proofs.lemmas.List.Edits.{remove-append_right}
use Rattle.std.specs.List.{remove}
use Rattle.bucket_page.specs.Layout.{Entry}
use Rattle.id_page.specs.Fork.{Link}
use Rattle.id_page.proofs.ForkReading.{count_of_fork, some_link}
use Rattle.id_page.proofs.LeafReading.{count_of_leaf}
use Rattle.id_words.specs.Objects.{times_in}
use Rattle.page_file.specs.Pages.{SameBut}
use Rattle.node_page.specs.Parts.{Moves}
use Rattle.node_page.specs.Standing.{PageMap}
use Rattle.node_page.proofs.PartLemmas.{moves_from}
use Rattle.id_tree.specs.Cutting.{Cuts, SpellsNode}
use Rattle.id_tree.specs.Joining.{AreApart, AreNeighbours, AtPair, HasSpare, HaveRoom, IsBalanced, IsPair}
use Rattle.id_tree.specs.Joining.{Joins, MakesSpare, MayJoin, MayMeet, PutsAndFrees, PutsBoth}
use Rattle.id_tree.specs.Joining.{Shares, SharesOut, met}
use Rattle.id_tree.specs.Rows.{NodeStands, joined, part_at}
use Rattle.id_tree.specs.Steps.{Keeps, MakesRoom}
use Rattle.id_tree.specs.Tree.{HasNode, Row, end, more, child, RowStands, at_edge, fork_in, links_of}
use Rattle.id_tree.specs.Tree.{objects_in, occurs}
use Rattle.id_tree.proofs.AddLemmas.{some_links}
use Rattle.id_tree.proofs.CutLemmas.{least_some}
use Rattle.id_tree.proofs.MeetLemmas.{many_links, many_objects, met_filled, met_parted, met_some, met_stands}
use Rattle.id_tree.proofs.MeetLemmas.{objects-met, occurs-met}
use Rattle.id_tree.proofs.NodeLemmas.{below_there, is_there, not_there, occurs_here, row_stays, stands_same}
use Rattle.id_tree.proofs.ObjectLemmas.{keeps_equal, keeps_within}
use Rattle.id_tree.proofs.PairLemmas.{neighbours, pages_apart, pair_links, pair_long, pair_objects}
use Rattle.id_tree.proofs.PairLemmas.{second_link, tail_stands}
use Rattle.id_tree.proofs.RowLemmas.{joined-joined, links-joined, objects-joined, passes-more}
use Rattle.id_tree.proofs.SplitLemmas.{makes_from, node_of_bytes}
use Rattle.id_tree.proofs.TidyLemmas.{as_tidy_on, fork_as_tidy}
use Rattle.id_tree.proofs.SwapLemmas.{KeepsBounds, Renamed, Swapped, Swaps, swapped, swapped_written}

-- without one of two links, and with another one for it
link_less : (front rest : List Link) (here gone : Link)
    → remove (front ++ here ∷ gone ∷ rest) (length front + 1) ≡ front ++ here ∷ rest
link_less front rest here gone =
    let one : length front + 1 - length front ≡ 1 = omega arith in
    remove-append_right front (here ∷ gone ∷ rest) (length front) (length front + 1) refl (omega arith)
    ∙ ap (λ k. front ++ remove (here ∷ gone ∷ rest) k) one

link_other : (front rest : List Link) (here old new : Link)
    → set (front ++ here ∷ old ∷ rest) (length front + 1) new ≡ front ++ here ∷ new ∷ rest
link_other front rest here old new =
    let one : length front + 1 - length front ≡ 1 = omega arith in
    set-append_right front (here ∷ old ∷ rest) (length front) (length front + 1) new refl (omega arith)
    ∙ ap (λ k. front ++ set (here ∷ old ∷ rest) k new) one

module _ (dims : ℕ) (old : PageMap) (page level : ℕ) (edge : Bool) (row : Row) (id first second : ℕ)
    (high : 0 < level) (s : NodeStands dims old page level edge row) (at : AtPair id first second row)
    (single : (q : ℕ) → times_in q (objects_in row) ≤ 1) where
  nb : AreNeighbours dims old (level - 1) (at_edge edge at.rest) first second at.between at.one at.two
  nb = neighbours dims old page level edge row id first second high s at single

  low_first : 2 < first
  low_first = (tail_stands dims old page level edge row id first second high s at).1

  was : Row
  was = more (child at.key first at.one) (more (child at.between second at.two) end)

  was_part : (n : ℕ) → occurs n was ≡ part_at first at.one n + part_at second at.two n
  unfolding was
  was_part n = omega arith

  was_objects : objects_in was ≡ objects_in at.one ++ objects_in at.two
  unfolding was
  was_objects = ap (λ (xs : List Entry). objects_in at.one ++ xs) (append-nil (objects_in at.two))

  is_here : (p n : ℕ) → n ≡ p → ◌≡◌ {A = ℕ} (cond (eqb p n) 1 0) 1
  is_here p n is = ap (λ k. cond (eqb p k) 1 0) is ∙ occurs_here p

  -- the pages below both stay, and are there
  below_stays : (mid : PageMap) → ((n : ℕ) → ¬ (n ≡ first) → ¬ (n ≡ second) → mid n ≡ old n) → (n : ℕ)
      → 0 < occurs n at.one + occurs n at.two → mid n ≡ old n
  below_stays mid others n some = others n
      (λ is. let one = is_here first n is in omega (arith, one, some, nb.once n))
      (λ is. let one = is_here second n is in omega (arith, one, some, nb.once n))

  below_live : (n : ℕ) → 0 < occurs n at.one + occurs n at.two → IsSome (old n)
  below_live n some = ⊎_elim
      (λ (none : occurs n at.one ≡ 0). below_there dims old (level - 1) at.two n nb.two_stands.below
      (omega (arith, none, some)))
      (λ (here : ¬ (occurs n at.one ≡ 0)). below_there dims old (level - 1) at.one n nb.one_stands.below
      (omega (arith, here)))
      (cases_eq (occurs n at.one) 0)

  row_objects : objects_in row ≡ objects_in at.front
      ++ ((objects_in at.one ++ objects_in at.two) ++ objects_in at.rest)
  row_objects = pair_objects dims old page level edge row id first second high s at
      ∙ ap (λ (xs : List Entry). objects_in at.front ++ xs)
      (sym (append_assoc (objects_in at.one) (objects_in at.two) (objects_in at.rest)))

  row_links : links_of row ≡ links_of at.front ++ (at.key, first) ∷ (at.between, second) ∷ links_of at.rest
  row_links = pair_links dims old page level edge row id first second high s at

  -- ---- one

  module _ (mid new : PageMap) (all : List ℕ) (puts : PutsAndFrees old mid first second all)
      (spells : SpellsNode dims (level - 1) (met at.between at.one at.two) all)
      (others : SameBut page mid new)
      (named : fork_in dims (new page) ≡ Some
      (record { level = level; links = remove (links_of row) (length (links_of at.front) + 1) })) where
    one : Row
    one = more (child at.key first (met at.between at.one at.two)) end

    whole : Row
    whole = joined at.front (joined (more (child at.key first (met at.between at.one at.two)) end) at.rest)

    counts : (n : ℕ) → occurs n was ≡ occurs n one + cond (eqb second n) 1 0
    unfolding one
    counts n = omega (arith, was_part n, occurs-met at.between n at.one at.two)

    one_part : (n : ℕ) → occurs n one ≡ cond (eqb first n) 1 0 + (occurs n at.one + occurs n at.two)
    unfolding one
    one_part n = omega (arith, occurs-met at.between n at.one at.two)

    one_objects : objects_in one ≡ objects_in at.one ++ objects_in at.two
    unfolding one
    one_objects = append-nil (objects_in (met at.between at.one at.two))
        ∙ objects-met at.between at.one at.two

    join_moves : Moves old mid (λ n. occurs n was) (λ n. occurs n one)
    join_moves = record {
      outside = λ n none gone. puts.others n
          (λ is. let here = is_here first n is in omega (arith, here, gone, one_part n))
          (λ is. let here = is_here second n is in omega (arith, here, none, counts n));
      came = λ n none some. absurd (omega (arith, none, some, counts n));
      went = λ n some none. ⊎_elim
          (λ (is : second ≡ n). subst (λ k. mid k ≡ None) is puts.gone)
          (λ (other : ¬ (second ≡ n)). let no = not_there second n other in
          absurd (omega (arith, some, none, no, counts n)))
          (cases_eq second n);
      live = λ n some. ⊎_elim
          (λ (is : n ≡ first). subst (λ k. IsSome (mid k)) (sym is) (is_there (mid first) all puts.there))
          (λ (off : ¬ (n ≡ first)).
          let no = not_there first n (λ is. off (sym is)) in
          let below : 0 < occurs n at.one + occurs n at.two = omega (arith, some, no, one_part n) in
          subst IsSome (sym (below_stays mid puts.others n below)) (below_live n below))
          (cases_eq n first);
      once = λ n. omega (arith, counts n, was_part n, nb.once n);
    }

    join_stands : RowStands dims mid level one
    unfolding one
    join_stands = (
      high,
      low_first,
      met_some dims old (level - 1) (at_edge edge at.rest) first second at.between at.one at.two nb,
      node_of_bytes dims mid first (level - 1) (met at.between at.one at.two) all spells puts.there,
      row_stays dims old mid (level - 1) (met at.between at.one at.two)
          (λ n some. below_stays mid puts.others n
          (omega (arith, some, occurs-met at.between n at.one at.two)))
          (met_stands dims old (level - 1) (at_edge edge at.rest) first second at.between at.one at.two nb),
      tt,
    )

    spare : HasSpare dims (level - 1) (at_edge edge at.rest) (met at.between at.one at.two)
    spare = record {
      leaf = λ low. omega (arith, many_objects at.between at.one at.two, nb.one_some, nb.two_some);
      fork = λ up. omega (arith, many_links at.between at.one at.two, first_some up, second_some up);
      large_leaf = λ low off. let large = nb.one_large.leaf low in
          omega (arith, many_objects at.between at.one at.two, nb.two_some, large);
      large_fork = λ up off. let large = nb.one_large.fork up in
          omega (arith, many_links at.between at.one at.two, second_some up, large);
    }
      where
        first_some : 0 < level - 1 → 0 < length (links_of at.one)
        first_some up = some_links dims old (level - 1) at.one up nb.one_stands.below nb.one_some

        second_some : 0 < level - 1 → 0 < length (links_of at.two)
        second_some up = some_links dims old (level - 1) at.two up nb.two_stands.below nb.two_some

    join_swaps : Swaps dims old mid level (at_edge edge at.rest) was one
    unfolding was one
    join_swaps = record {
      first = at.key;
      began = refl;
      begins = refl;
      stands = join_stands;
      parted = (
        met_parted dims old (level - 1) (at_edge edge at.rest) first second at.between at.one at.two
            nb,
        tt,
        tt,
      );
      filled = (
        (λ off. record {
          leaf = λ low. let large = spare.large_leaf low off in omega (arith, large);
          fork = λ up. let large = spare.large_fork up off in omega (arith, large);
        }),
        met_filled dims old (level - 1) (at_edge edge at.rest) first second at.between at.one at.two nb,
        tt,
      );
      moves = join_moves;
    }

    join_bounds : KeepsBounds at.front was one at.rest at.key
    join_bounds = record {
      below = λ k begins less. subst (λ xs. All (λ o. o.0 < k) xs) (was_objects ∙ sym one_objects) less;
      from = λ q r b l e from. subst (λ xs. All (λ o. at.key ≤ o.0) xs) (was_objects ∙ sym one_objects) from;
    }

    join_swapped : Swapped dims old mid page level edge row whole
    unfolding was one whole join_swaps
    join_swapped = swapped dims old mid page level edge row at.front was one at.rest high at.is s join_swaps
        join_bounds

    whole_links : links_of whole ≡ links_of at.front ++ (at.key, first) ∷ links_of at.rest
    unfolding whole
    whole_links = links-joined at.front (more (child at.key first (met at.between at.one at.two)) at.rest)

    join_links : remove (links_of row) (length (links_of at.front) + 1) ≡ links_of whole
    join_links = ap (λ (xs : List Link). remove xs (length (links_of at.front) + 1)) row_links
        ∙ link_less (links_of at.front) (links_of at.rest) (at.key, first) (at.between, second)
        ∙ sym whole_links

    join_keeps : Keeps (objects_in row) (objects_in whole)
    unfolding whole
    join_keeps = keeps_equal (objects_in row) (objects_in whole)
        (objects-joined at.front (more (child at.key first (met at.between at.one at.two)) at.rest)
        ∙ ap (λ (xs : List Entry). objects_in at.front ++ (xs ++ objects_in at.rest))
        (objects-met at.between at.one at.two) ∙ sym row_objects)

    renamed : Renamed dims old new page level edge row whole
    renamed = swapped_written dims old mid new page level edge row whole high s join_swapped others
        (named ∙ ap (λ (xs : List Link). Some (record { level = level; links = xs })) join_links)

    pub made_one : (last : Bool) → last ≡ at_edge edge at.rest
        → MakesSpare dims old new page level edge row id first last
    unfolding whole
    made_one last is = record {
      now = whole;
      stands = renamed.stands;
      keeps = join_keeps;
      wide = omega (
        arith,
        ap length row_links,
        ap length whole_links,
        length-append (links_of at.front) ((at.key, first) ∷ (at.between, second) ∷ links_of at.rest),
        length-append (links_of at.front) ((at.key, first) ∷ links_of at.rest),
      );
      moves = renamed.moves;
      way = record {
        front = at.front;
        key = at.key;
        below = met at.between at.one at.two;
        rest = at.rest;
        is = refl;
        passes = at.passes;
        stops = at.stops;
      };
      spare = subst (λ e. HasSpare dims (level - 1) e (met at.between at.one at.two)) (sym is) spare;
      last_is = is;
    }

  -- ---- two others

  module _ (mid new : PageMap) (key : ℕ) (less more_of : List ℕ)
      (puts : PutsBoth old mid first second less more_of)
      (cut : Cuts dims (level - 1) (at_edge edge at.rest) (met at.between at.one at.two) key less more_of)
      (balanced : IsBalanced dims (level - 1) less more_of) (others : SameBut page mid new)
      (named : fork_in dims (new page) ≡ Some
      (record {
        level = level;
        links = set (links_of row) (length (links_of at.front) + 1) (key, second);
      })) where
    both : Row
    both = more (child at.key first cut.left) (more (child key second cut.right) end)

    all : Row
    all = joined at.front
        (joined (more (child at.key first cut.left) (more (child key second cut.right) end)) at.rest)

    same_counts : (n : ℕ) → occurs n both ≡ occurs n was
    unfolding both
    same_counts n = omega (arith, was_part n, occurs-met at.between n at.one at.two, cut.counts n)

    both_part : (n : ℕ) → occurs n both ≡ cond (eqb first n) 1
        0 + (cond (eqb second n) 1 0 + (occurs n at.one + occurs n at.two))
    both_part n = omega (arith, same_counts n, was_part n)

    left_part : (n : ℕ) → 0 < occurs n cut.left → 0 < occurs n at.one + occurs n at.two
    left_part n some = omega (arith, some, cut.counts n, occurs-met at.between n at.one at.two)

    right_part : (n : ℕ) → 0 < occurs n cut.right → 0 < occurs n at.one + occurs n at.two
    right_part n some = omega (arith, some, cut.counts n, occurs-met at.between n at.one at.two)

    both_objects : objects_in both ≡ objects_in cut.left ++ objects_in cut.right
    unfolding both
    both_objects = ap (λ (xs : List Entry). objects_in cut.left ++ xs) (append-nil (objects_in cut.right))

    met_objects : objects_in (met at.between at.one at.two) ≡ objects_in was
    met_objects = objects-met at.between at.one at.two ∙ sym was_objects

    share_moves : Moves old mid (λ n. occurs n was) (λ n. occurs n both)
    share_moves = record {
      outside = λ n none gone. puts.others n
          (λ is. let here = is_here first n is in omega (arith, here, gone, both_part n))
          (λ is. let here = is_here second n is in omega (arith, here, gone, both_part n));
      came = λ n none some. absurd (omega (arith, none, some, same_counts n));
      went = λ n some none. absurd (omega (arith, none, some, same_counts n));
      live = λ n some. ⊎_elim
          (λ (is : n ≡ first). subst (λ k. IsSome (mid k)) (sym is)
          (is_there (mid first) less puts.there_first))
          (λ (off : ¬ (n ≡ first)). ⊎_elim
          (λ (is : n ≡ second). subst (λ k. IsSome (mid k)) (sym is)
          (is_there (mid second) more_of puts.there_second))
          (λ (away : ¬ (n ≡ second)).
          let no = not_there first n (λ is. off (sym is)) in
          let none = not_there second n (λ is. away (sym is)) in
          let below : 0 < occurs n at.one + occurs n at.two = omega (arith, some, no, none, both_part n) in
          subst IsSome (sym (below_stays mid puts.others n below)) (below_live n below))
          (cases_eq n second))
          (cases_eq n first);
      once = λ n. omega (arith, same_counts n, was_part n, nb.once n);
    }

    share_stands : RowStands dims mid level both
    unfolding both
    share_stands = (
      high,
      low_first,
      cut.some_left,
      node_of_bytes dims mid first (level - 1) cut.left less cut.spells_left puts.there_first,
      row_stays dims old mid (level - 1) cut.left (λ n some. below_stays mid puts.others n (left_part n some))
          (cut.below_left old met_old),
      (
        high,
        nb.two_stands.low,
        cut.some_right,
        node_of_bytes dims mid second (level - 1) cut.right more_of cut.spells_right puts.there_second,
        row_stays dims old mid (level - 1) cut.right
            (λ n some. below_stays mid puts.others n (right_part n some)) (cut.below_right old met_old),
        tt,
      ),
    )
      where
        met_old : RowStands dims old (level - 1) (met at.between at.one at.two)
        met_old = met_stands dims old (level - 1) (at_edge edge at.rest) first second at.between at.one at.two
            nb

    share_swaps : Swaps dims old mid level (at_edge edge at.rest) was both
    unfolding was both
    share_swaps = record {
      first = at.key;
      began = refl;
      begins = refl;
      stands = share_stands;
      parted = (
        cut.parted_left,
        (
          cut.lesser,
          subst (λ xs. All (λ o. key ≤ o.0) xs) (sym (append-nil (objects_in cut.right)))
              cut.from,
        ),
        (cut.parted_right, tt, tt),
      );
      filled = ((λ off. cut.large_left), cut.filled_left, (cut.large_right, cut.filled_right, tt));
      moves = share_moves;
    }

    share_bounds : KeepsBounds at.front was both at.rest at.key
    share_bounds = record {
      below = λ k begins less. subst (λ xs. All (λ o. o.0 < k) xs) (sym both_objects)
          (cut.keeps.below k (subst (λ xs. All (λ o. o.0 < k) xs) (sym met_objects) less));
      from = λ q r b l e from. subst (λ xs. All (λ o. at.key ≤ o.0) xs) (sym both_objects)
          (cut.keeps.from at.key (subst (λ xs. All (λ o. at.key ≤ o.0) xs) (sym met_objects) from));
    }

    share_swapped : Swapped dims old mid page level edge row all
    unfolding was both all share_swaps
    share_swapped = swapped dims old mid page level edge row at.front was both at.rest high at.is s
        share_swaps share_bounds

    all_links : links_of all ≡ links_of at.front ++ (at.key, first) ∷ (key, second) ∷ links_of at.rest
    unfolding all
    all_links =
        links-joined at.front (more (child at.key first cut.left) (more (child key second cut.right) at.rest))

    share_links : set (links_of row) (length (links_of at.front) + 1) (key, second) ≡ links_of all
    share_links = ap (λ (xs : List Link). set xs (length (links_of at.front) + 1) (key, second)) row_links
        ∙ link_other (links_of at.front) (links_of at.rest) (at.key, first) (at.between, second) (key, second)
        ∙ sym all_links

    share_keeps : Keeps (objects_in row) (objects_in all)
    unfolding all
    share_keeps =
        let now_is : objects_in all ≡ objects_in at.front
        ++ ((objects_in cut.left ++ objects_in cut.right) ++ objects_in at.rest)
        = objects-joined at.front
        (more (child at.key first cut.left) (more (child key second cut.right) at.rest))
        ∙ ap (λ (xs : List Entry). objects_in at.front ++ xs)
        (sym (append_assoc (objects_in cut.left) (objects_in cut.right) (objects_in at.rest))) in
        subst (λ xs. Keeps xs (objects_in all)) (sym row_objects)
        (subst (Keeps
        (objects_in at.front ++ ((objects_in at.one ++ objects_in at.two) ++ objects_in at.rest)))
        (sym now_is)
        (keeps_within (objects_in at.front) (objects_in at.one ++ objects_in at.two)
        (objects_in cut.left ++ objects_in cut.right) (objects_in at.rest)
        (subst (λ xs. Keeps xs (objects_in cut.left ++ objects_in cut.right))
        (objects-met at.between at.one at.two) cut.keeps)))

    share_renamed : Renamed dims old new page level edge row all
    share_renamed = swapped_written dims old mid new page level edge row all high s share_swapped others
        (named ∙ ap (λ (xs : List Link). Some (record { level = level; links = xs })) share_links)

    as_wide : length (links_of row) ≤ length (links_of all)
    as_wide = omega (
      arith,
      ap length row_links,
      ap length all_links,
      length-append (links_of at.front) ((at.key, first) ∷ (at.between, second) ∷ links_of at.rest),
      length-append (links_of at.front) ((at.key, first) ∷ (key, second) ∷ links_of at.rest),
    )

    wide : length (links_of row) ≤ length (links_of all) + 1
    wide = omega (arith, as_wide)

    left_spare : HasSpare dims (level - 1) false cut.left
    left_spare =
        let some = least_some dims in
        record {
          leaf = λ low. let many = balanced.first_leaf low in
              omega (
                arith,
                many,
                some,
                count_of_leaf dims less (objects_in cut.left)
                    (cut.spells_left.leaf low),
              );
          fork = λ up. let many = balanced.first_fork up in
              omega (
                arith,
                many,
                count_of_fork dims less
                    (record { level = level - 1; links = links_of cut.left }) (cut.spells_left.fork up),
              );
          large_leaf = λ low off. let many = balanced.first_leaf low in
              omega (arith, many, count_of_leaf dims less (objects_in cut.left) (cut.spells_left.leaf low));
          large_fork = λ up off. let many = balanced.first_fork up in
              omega (
                arith,
                many,
                count_of_fork dims less
                    (record { level = level - 1; links = links_of cut.left }) (cut.spells_left.fork up),
              );
        }

    right_spare : (e : Bool) → HasSpare dims (level - 1) e cut.right
    right_spare e =
        let some = least_some dims in
        record {
          leaf = λ low. let many = balanced.second_leaf low in
              omega (
                arith,
                many,
                some,
                count_of_leaf dims more_of (objects_in cut.right)
                    (cut.spells_right.leaf low),
              );
          fork = λ up. let many = balanced.second_fork up in
              omega (
                arith,
                many,
                count_of_fork dims more_of
                    (record { level = level - 1; links = links_of cut.right }) (cut.spells_right.fork up),
              );
          large_leaf = λ low off. let many = balanced.second_leaf low in
              omega (
                arith,
                many,
                count_of_leaf dims more_of (objects_in cut.right)
                    (cut.spells_right.leaf low),
              );
          large_fork = λ up off. let many = balanced.second_fork up in
              omega (
                arith,
                many,
                count_of_fork dims more_of
                    (record { level = level - 1; links = links_of cut.right }) (cut.spells_right.fork up),
              );
        }

    pub made_left : id < key → MakesSpare dims old new page level edge row id first false
    unfolding all
    made_left less = record {
      now = all;
      stands = share_renamed.stands;
      keeps = share_keeps;
      wide = wide;
      moves = share_renamed.moves;
      way = record {
        front = at.front;
        key = at.key;
        below = cut.left;
        rest = more (child key second cut.right) at.rest;
        is = refl;
        passes = at.passes;
        stops = less;
      };
      spare = left_spare;
      last_is = refl;
    }

    pub made_right : key ≤ id → (last : Bool) → last ≡ at_edge edge at.rest
        → MakesSpare dims old new page level edge row id second last
    unfolding all
    made_right le last is = record {
      now = all;
      stands = share_renamed.stands;
      keeps = share_keeps;
      wide = wide;
      moves = share_renamed.moves;
      way = record {
        front = joined at.front (more (child at.key first cut.left) end);
        key = key;
        below = cut.right;
        rest = at.rest;
        is = sym (joined-joined at.front (more (child at.key first cut.left) end)
            (more (child key second cut.right) at.rest));
        passes = passes-more id at.key key first at.front cut.left at.passes le;
        stops = at.stops;
      };
      spare = right_spare last;
      last_is = is;
    }

    -- leaves of few objects have room
    module _ (few : HaveRoom dims less more_of) (low : level - 1 ≡ 0) where
      pub roomy_left : id < key → MakesRoom dims old new page level edge row id first false
      unfolding all
      roomy_left lt = record {
        now = all;
        stands = share_renamed.stands;
        keeps = share_keeps;
        wide = as_wide;
        moves = share_renamed.moves;
        way = record {
          front = at.front;
          key = at.key;
          below = cut.left;
          rest = more (child key second cut.right) at.rest;
          is = refl;
          passes = at.passes;
          stops = lt;
        };
        room = record {
          leaf = λ is. omega (
            arith,
            few.few_first,
            count_of_leaf dims less (objects_in cut.left) (cut.spells_left.leaf is),
          );
          fork = λ up. absurd (omega (arith, up, low));
        };
        last_is = refl;
      }

      pub roomy_right : key ≤ id → (last : Bool) → last ≡ at_edge edge at.rest
          → MakesRoom dims old new page level edge row id second last
      unfolding all
      roomy_right le last is = record {
        now = all;
        stands = share_renamed.stands;
        keeps = share_keeps;
        wide = as_wide;
        moves = share_renamed.moves;
        way = record {
          front = joined at.front (more (child at.key first cut.left) end);
          key = key;
          below = cut.right;
          rest = at.rest;
          is = sym (joined-joined at.front (more (child at.key first cut.left) end)
              (more (child key second cut.right) at.rest));
          passes = passes-more id at.key key first at.front cut.left at.passes le;
          stops = at.stops;
        };
        room = record {
          leaf = λ here. omega (
            arith,
            few.few_second,
            count_of_leaf dims more_of (objects_in cut.right) (cut.spells_right.leaf here),
          );
          fork = λ up. absurd (omega (arith, up, low));
        };
        last_is = is;
      }

-- ---- the same pages, and the pair as the code names it

module _ {dims : ℕ} {old mid new : PageMap} {page level : ℕ} {edge : Bool} {row : Row} {id below : ℕ}
    {last : Bool} where
  pub spare_from : MakesSpare dims mid new page level edge row id below last → ((n : ℕ) → mid n ≡ old n)
      → MakesSpare dims old new page level edge row id below last
  spare_from m same = record {
    now = m.now;
    stands = m.stands;
    keeps = m.keeps;
    wide = m.wide;
    moves = moves_from old mid new (part_at page row) (part_at page m.now) same m.moves;
    way = m.way;
    spare = m.spare;
    last_is = m.last_is;
  }

-- with the same pair, as it computes
module _ {dims : ℕ} {old new : PageMap} {page level : ℕ} {edge : Bool} {row : Row} {id : ℕ} {fork : List ℕ}
    {left first second key : ℕ} {last : Bool} where
  abbrev pub join_same : MayJoin dims old page level edge row id fork left first second key last
      → ((n : ℕ) → new n ≡ old n) → MayJoin dims new page level edge row id fork left first second key last
  join_same may same = record {
    stands = stands_same dims old new page level edge row same may.stands;
    high = may.high;
    single = may.single;
    pair = may.pair;
    tidy = as_tidy_on dims old new fork same may.tidy;
  }

pub pair_may_join : {dims : ℕ} {old new : PageMap} {page level : ℕ} {edge : Bool} {row : Row} {id q place : ℕ}
    {fork : List ℕ} {left first second key : ℕ} {last : Bool} → MayMeet dims old page level edge row id q place
    → IsPair dims level edge row id fork left first second key last → old page ≡ Some fork
    → ((n : ℕ) → new n ≡ old n) → MayJoin dims new page level edge row id fork left first second key last
pair_may_join {dims} {old} {new} {page} {level} {edge} {row} {fork = fork} may pair there same = record {
  stands = stands_same dims old new page level edge row same may.stands;
  high = may.high;
  single = may.single;
  pair = pair;
  tidy = as_tidy_on dims old new fork same
      (fork_as_tidy dims old page fork (record { level = level; links = links_of row }) there pair.fork_is);
}

module _ {dims : ℕ} {old : PageMap} {page level : ℕ} {edge : Bool} {row : Row} {id : ℕ} {fork : List ℕ}
    {left first second key : ℕ} {last : Bool}
    (may : MayJoin dims old page level edge row id fork left first second key last) where
  pub one_node : HasNode dims old first (level - 1) may.pair.at.one
  one_node = (tail_stands dims old page level edge row id first second may.high may.stands may.pair.at).3

  pub two_node : HasNode dims old second (level - 1) may.pair.at.two
  two_node = (tail_stands dims old page level edge row id first second may.high may.stands may.pair.at).5.3

  pub join_apart : AreApart old page first second
  join_apart = pages_apart dims old page level edge row id first second may.high may.stands may.pair.at

  pub join_neighbours : AreNeighbours dims old (level - 1) last first second key may.pair.at.one
      may.pair.at.two
  join_neighbours =
      subst (λ e. AreNeighbours dims old (level - 1) e first second key may.pair.at.one may.pair.at.two)
      (sym may.pair.last_is)
      (subst (λ k. AreNeighbours dims old (level - 1) (at_edge edge may.pair.at.rest) first second k
      may.pair.at.one may.pair.at.two) (sym may.pair.key_is)
      (neighbours dims old page level edge row id first second may.high may.stands may.pair.at may.single))

  pub second_in : left + 1 < length (links_of row)
  second_in =
      omega (
        arith,
        may.pair.left_is,
        pair_long dims old page level edge row id first second may.high
            may.stands may.pair.at,
      )

  pub joined_spare : (new : PageMap) (all : List ℕ)
      → SpellsNode dims (level - 1) (met key may.pair.at.one may.pair.at.two) all
      → Joins dims old new page first second (left + 1) fork all
      → MakesSpare dims old new page level edge row id first last
  joined_spare new all spells j =
      made_one dims old page level edge row id first second may.high may.stands may.pair.at may.single j.mid
      new all j.puts
      (subst (λ k. SpellsNode dims (level - 1) (met k may.pair.at.one may.pair.at.two) all) may.pair.key_is
      spells) j.rest
      (j.named (record { level = level; links = links_of row }) may.pair.fork_is
      ∙ ap (λ k. Some (record { level = level; links = remove (links_of row) (k + 1) })) may.pair.left_is)
      last may.pair.last_is

  module _ (new : PageMap) (middle : ℕ) (less more_of : List ℕ)
      (cut : Cuts dims (level - 1) last (met key may.pair.at.one may.pair.at.two) middle less more_of)
      (balanced : IsBalanced dims (level - 1) less more_of)
      (sh : Shares dims old new page first second (left + 1) middle fork less more_of) where
    cut_here : Cuts dims (level - 1) (at_edge edge may.pair.at.rest)
        (met may.pair.at.between may.pair.at.one may.pair.at.two) middle less more_of
    cut_here =
        subst (λ k. Cuts dims (level - 1) (at_edge edge may.pair.at.rest)
        (met k may.pair.at.one may.pair.at.two) middle less more_of) may.pair.key_is
        (subst (λ e. Cuts dims (level - 1) e (met key may.pair.at.one may.pair.at.two) middle less more_of)
        may.pair.last_is cut)

    named_here : fork_in dims (new page) ≡ Some
        (record {
          level = level;
          links = set (links_of row) (length (links_of may.pair.at.front) + 1)
              (middle, second);
        })
    named_here =
        sh.named (record { level = level; links = links_of row }) some_link may.pair.fork_is second_in
        ∙ ap (λ (l : Link). Some
        (record { level = level; links = set (links_of row) (left + 1) (middle, l.1) }))
        (second_link dims old page level edge row id first second may.high may.stands may.pair.at left
        some_link may.pair.left_is)
        ∙ ap (λ k. Some (record { level = level; links = set (links_of row) (k + 1) (middle, second) }))
        may.pair.left_is

    module _ (AreFew : Type 0) (few : AreFew → HaveRoom dims less more_of × (level - 1 ≡ 0)) where
      pub shares_left : id < middle → SharesOut dims old new page level edge row id AreFew first false
      shares_left lt = record {
        spare = made_left dims old page level edge row id first second may.high may.stands may.pair.at
            may.single sh.mid new middle less more_of sh.puts cut_here balanced sh.rest named_here lt;
        room = λ are. roomy_left dims old page level edge row id first second may.high may.stands may.pair.at
            may.single sh.mid new middle less more_of sh.puts cut_here balanced sh.rest named_here
            (few are).0 (few are).1 lt;
      }

      pub shares_right : middle ≤ id → SharesOut dims old new page level edge row id AreFew second last
      shares_right le = record {
        spare = made_right dims old page level edge row id first second may.high may.stands may.pair.at
            may.single sh.mid new middle less more_of sh.puts cut_here balanced sh.rest named_here le last
            may.pair.last_is;
        room = λ are. roomy_right dims old page level edge row id first second may.high may.stands may.pair.at
            may.single sh.mid new middle less more_of sh.puts cut_here balanced sh.rest named_here
            (few are).0 (few are).1 le last may.pair.last_is;
      }

module _ {dims : ℕ} {old mid new : PageMap} {page level : ℕ} {edge : Bool} {row : Row} {id below : ℕ}
    {AreFew : Type 0} {last : Bool} where
  pub shares_from : SharesOut dims mid new page level edge row id AreFew below last
      → ((n : ℕ) → mid n ≡ old n) → SharesOut dims old new page level edge row id AreFew below last
  shares_from s same = record {
    spare = spare_from s.spare same;
    room = λ few. makes_from dims old mid new page level edge row id below last same (s.room few);
  }
