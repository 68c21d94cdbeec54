use Rattle.std.proofs.Common.{rules, ◌∙◌, length, sym, subst, arith}
use Rattle.std.proofs.lemmas.List.{length-map}
use Rattle.tree_node.specs.Nodes.{item_of, items_of}
use Rattle.rstar_split.specs.declared.sorting.Bound.TheVariants.{Lower, Upper}
use Rattle.rstar_split.specs.Sorts.{CutsAxis}
use Rattle.rstar_split.proofs.AxisLaws.{sort_whole, sort_below, lower_is_least, upper_is_least}
use Rattle.rstar_split.proofs.groups.least_cut.Goals as goal

pub best_cut-cut-requires : goal.best_cut-cut-requires
best_cut-cut-requires g c =
    let items = items_of c.args.entries.now in
    let places = c.args.places.now in
    let sorts = c.requires.sorts in
    let long = length-map c.args.entries.now item_of in
    let whole = sort_whole items sorts.0 Lower places sorts.1.by_lower in
    let below = sort_below items sorts.0 Lower places (length c.args.entries.now) sorts.1.by_lower long in (
      search rules,
      (
        search rules,
        (
          search rules,
          (
            c.requires.dims,
            (
              omega (arith, whole, long, c.requires.few),
              (
                c.requires.some,
                (omega (arith, whole, long, c.requires.enough), below),
              ),
            ),
          ),
        ),
      ),
    )

pub best_cut-other-requires : goal.best_cut-other-requires
best_cut-other-requires g c =
    let items = items_of c.args.entries.now in
    let upper = c.args.upper.now in
    let sorts = c.requires.sorts in
    let long = length-map c.args.entries.now item_of in
    let whole = sort_whole items sorts.0 Upper upper sorts.1.by_upper in
    let below = sort_below items sorts.0 Upper upper (length c.args.entries.now) sorts.1.by_upper long in (
      search rules,
      (
        search rules,
        (
          search rules,
          (
            c.requires.dims,
            (
              omega (arith, whole, long, c.requires.few),
              (
                c.requires.some,
                (omega (arith, whole, long, c.requires.enough), below),
              ),
            ),
          ),
        ),
      ),
    )

pub copy_from_slice-requires : goal.copy_from_slice-requires
copy_from_slice-requires g c =
    let items = items_of c.args.entries.now in
    let sorts = c.requires.sorts in
    sort_whole items sorts.0 Lower c.args.places.now sorts.1.by_lower
    ∙ sym (sort_whole items sorts.0 Upper c.args.upper.now sorts.1.by_upper)

pub returns-then-not-at_most : goal.returns-then-not-at_most
returns-then-not-at_most g c =
    λ axis sorts.
    let cut = c.best_cut-other.result in
    subst
    (λ ps. CutsAxis g.row.D (items_of c.args.entries.now) c.args.m axis ps cut)
    (sym c.copy_from_slice.ensures.after)
    (upper_is_least g.row.D (items_of c.args.entries.now) c.args.m axis c.args.places.now c.args.upper.now
    c.best_cut-cut.result cut sorts c.best_cut-other.ensures.bound c.best_cut-cut.ensures.least
    c.best_cut-other.ensures.least (λ h. let t = c.at_most.ensures.1 h in search rules))

pub returns-else-not-at_most : goal.returns-else-not-at_most
returns-else-not-at_most g c =
    λ axis sorts.
    lower_is_least g.row.D (items_of c.args.entries.now) c.args.m axis c.args.places.now c.args.upper.now
    c.best_cut-cut.result c.best_cut-other.result sorts c.best_cut-cut.ensures.bound
    c.best_cut-cut.ensures.least c.best_cut-other.ensures.least (c.at_most.ensures.0 (search rules))
