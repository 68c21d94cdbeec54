use Rattle.std.proofs.Common.{rules, refl, ◌≡◌, ◌+◌, ◌<◌, ◌≤◌, ℕ, ◌∷◌, [], ◌∙◌, List, ap, subst, sym, arith}
use Rattle.std.proofs.Common.{length, take, drop}
use Rattle.std.specs.List.{All}
use Rattle.std.proofs.lemmas.List.{length-map}
use Rattle.std.proofs.lemmas.List.Elements.{All-take, All-drop}
use Rattle.tree_node.specs.declared.node.Entry.{Entry}
use Rattle.tree_node.specs.Nodes.{item_of, items_of}
use Rattle.tree_node.specs.Positions.{pick}
use Rattle.tree_node.specs.Shape.{least_entries}
use Rattle.tree_node.specs.Keys.{AtMost, IsFirstLeast}
use Rattle.rstar_split.specs.declared.sorting.Bound.{Bound}
use Rattle.rstar_split.specs.Cuts.{order_of, axis_margin, cut_key}
use Rattle.rstar_split.proofs.SortLaws.{length-order_of, below-order_of}
use Rattle.rstar_split.proofs.SplitParts.{divided_whole}
use Rattle.rstar_split.proofs.groups.split.Goals as goal

pub picked-requires : goal.picked-requires
picked-requires g c =
    let all = c.as_slice-all.result.now in
    let axis = c.best_axis.result in
    let cut = c.least_cut-cut.result in
    let places = c.least_cut-cut.new.places in
    let cuts = c.least_cut-cut.ensures axis c.best_axis.ensures.sorts in
    let long = length-map all item_of in
    let P : ℕ → Type 0 = λ p. p < length (items_of all) in
    let good : All P places = subst (All P) (sym cuts.order) (below-order_of (items_of all) axis cut.bound) in
    let front : All P c.split_at.result.0.now =
    subst (All P) (sym c.split_at.ensures.front) (All-take P cut.size places good) in
    let few : length c.split_at.result.0.now ≤ 101 =
    omega (
      arith,
      c.split_at.ensures.front_len,
      cuts.second_full,
      long,
      ap length c.as_slice-all.ensures.value,
      c.requires.count,
      c.args.fanout.within,
    ) in
    (search rules, (search rules, (few, λ k h. omega (arith, front k 0 h, long))))

pub picked-requires-2 : goal.picked-requires-2
picked-requires-2 g c =
    let all = c.as_slice-all.result.now in
    let axis = c.best_axis.result in
    let cut = c.least_cut-cut.result in
    let places = c.least_cut-cut.new.places in
    let cuts = c.least_cut-cut.ensures axis c.best_axis.ensures.sorts in
    let long = length-map all item_of in
    let P : ℕ → Type 0 = λ p. p < length (items_of all) in
    let whole = ap length cuts.order ∙ length-order_of (items_of all) axis cut.bound in
    let good : All P places = subst (All P) (sym cuts.order) (below-order_of (items_of all) axis cut.bound) in
    let back : All P c.split_at.result.1.now =
    subst (All P) (sym c.split_at.ensures.back) (All-drop P cut.size places good) in
    let few : length c.split_at.result.1.now ≤ 101 =
    omega (
      arith,
      c.split_at.ensures.back_len,
      whole,
      long,
      ap length c.as_slice-all.ensures.value,
      c.requires.count,
      c.args.fanout.within,
    ) in
    (search rules, (search rules, (few, λ k h. omega (arith, back k 0 h, long))))

pub returns-clause-divided : goal.returns-clause-divided
returns-clause-divided g c =
    let D = g.row.D in
    let es = c.args.entries.now.items in
    let all = c.as_slice-all.result.now in
    let is : all ≡ es = c.as_slice-all.ensures.value in
    let axis = c.best_axis.result in
    let cut = c.least_cut-cut.result in
    let cuts = c.least_cut-cut.ensures axis c.best_axis.ensures.sorts in
    let m : c.least_entries-m.result ≡ least_entries c.args.fanout.most = c.least_entries-m.ensures.value in
    let o : List ℕ = order_of (items_of es) axis cut.bound in
    let places : c.least_cut-cut.new.places ≡ o = cuts.order
    ∙ ap (λ xs. order_of (items_of xs) axis cut.bound) is in
    let AxisLeast : List (Entry D) → ℕ
    → Type 0 = λ xs n. IsFirstLeast D (λ a. axis_margin D (items_of xs) n a ∷ []) axis in
    let Least : List (Entry D) → ℕ → Type 0 = λ xs n. (b : Bound) (s : ℕ) → n ≤ s
    → s + n ≤ length (items_of xs)
    → AtMost (cut_key D (items_of xs) axis cut.bound cut.size) (cut_key D (items_of xs) axis b s) in
    let same = ap (λ xs. length (items_of xs)) is in
    record {
      places = take cut.size o;
      others = drop cut.size o;
      splits = record {
        axis = axis;
        bound = cut.bound;
        size = cut.size;
        axis_least =
            subst (λ n. AxisLeast es n) m
            (subst (λ xs. AxisLeast xs c.least_entries-m.result) is c.best_axis.ensures.first);
        first_full = omega (arith, m, cuts.first_full);
        second_full = omega (arith, m, same, cuts.second_full);
        least = subst (λ n. Least es n) m (subst (λ xs. Least xs c.least_entries-m.result) is cuts.least);
        first_is = refl;
        second_is = refl;
      };
      first_is = c.picked.ensures.value ∙ ap (pick all) (c.split_at.ensures.front ∙ ap (take cut.size) places)
          ∙ ap (λ xs. pick xs (take cut.size o)) is;
      second_is = c.picked-2.ensures.value ∙ ap (pick all) (c.split_at.ensures.back ∙ ap (drop cut.size) places)
          ∙ ap (λ xs. pick xs (drop cut.size o)) is;
    }

pub returns-clause-all : goal.returns-clause-all
returns-clause-all g c = divided_whole g.row.D c.args.fanout.most _ _ _ (returns-clause-divided g c)
