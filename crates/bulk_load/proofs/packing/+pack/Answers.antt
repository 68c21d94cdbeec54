-- A root, or a level and what is above it.
use Rattle.std.proofs.Common.{◌≡◌, ℕ, suc, ◌+◌, ◌<◌, ◌≤◌, List, length, All, refl, sym, ap, subst, arith}
use Rattle.std.proofs.Common.{rules}
use Rattle.std.proofs.lemmas.List.{length-map}
use Rattle.std.proofs.lemmas.List.Sorted.{IsPermutation-refl}
use Rattle.page_cache.specs.Cache.{pages}
use Rattle.page_cache.proofs.Results.{if_ok_map}
use Rattle.page_cache.specs.Calls.{changes_in_turn, fault_in}
use Rattle.tree_node.specs.Nodes.{Item, item_of, items_of}
use Rattle.tree_node.specs.Rows.{item_in}
use Rattle.tree_node.specs.declared.node.Entry.{Entry}
use Rattle.node_bytes.specs.Layout.{IsOfLevel}
use Rattle.bulk_load.specs.Levels.{PackedAt, WaitFor}
use Rattle.bulk_load.proofs.LevelLemmas.{level_packed, root_written}
use Rattle.bulk_load.proofs.SizeLemmas.{next_fits}
use Rattle.bulk_load.proofs.packing.+pack.Goals as goal

pub returns-then-entries-clause-packed : goal.returns-then-entries-clause-packed
returns-then-entries-clause-packed g t c = λ sound bs waits.
    root_written g.row.D c.args.fanout.most c.args.level (pages c.args.cache.now)
    (pages c.write_new.new.cache)
    (items_of c.args.entries.now) bs (record { page = c.in_ok-page.page; level = c.args.level }) waits
    (omega (arith, length-map c.args.entries.now item_of, c.if-entries.true, c.entries.ensures)) refl
    (c.in_ok-page.ensures.fresh sound) (c.in_ok-page.ensures.others sound) (c.in_ok-page.ensures.node sound)

pub returns-in_err-page-clause-all : goal.returns-in_err-page-clause-all
returns-in_err-page-clause-all g t c = IsPermutation-refl c.args.entries.now

pub pack-requires : goal.pack-requires
pack-requires g t c κs within =
    let long : length c.as_mut_slice.result.now ≡ length c.in_ok-parents.parents.items =
    ap length c.as_mut_slice.ensures.value in
    let half : length c.in_ok-parents.parents.items + length c.in_ok-parents.parents.items ≤ length
    c.args.entries.now = omega (arith, c.in_ok-parents.ensures.half) in
    let smaller : length c.as_mut_slice.result.now < length c.args.entries.now =
    omega (arith, long, half, c.in_ok-parents.ensures.two) in (
      omega (arith, smaller, c.decreases),
      (
        search rules,
        (
          search rules,
          (
            search rules,
            (
              search rules,
              (
                search rules,
                (
                  c.requires.dims,
                  (
                    λ above. omega (arith, long, c.in_ok-parents.ensures.two),
                    (
                      subst (λ (es : List (Entry g.row.D)). All
                          (λ (item : Item). IsOfLevel (c.args.level + 1) item.reference item.tag)
                          (items_of es)) (sym c.as_mut_slice.ensures.value)
                          c.in_ok-parents.ensures.refers,
                      next_fits (length c.args.entries.now) (length c.as_mut_slice.result.now)
                          c.args.level (omega (arith, long, half)) c.requires.fits,
                    ),
                  ),
                ),
              ),
            ),
          ),
        ),
      ),
    )

pub returns-clause-changes : goal.returns-clause-changes
returns-clause-changes g t c =
    changes_in_turn c.args.cache.now c.pack_level.new.cache c.pack.new.cache (fault_in c.pack.result)
    c.in_ok-parents.ensures.changes c.pack.ensures.changes

pub returns-clause-packed : goal.returns-clause-packed
returns-clause-packed g t c = λ sound bs waits.
    let l = c.in_ok-parents.ensures.packed sound bs waits in
    let one : suc c.args.level ≡ c.args.level + 1 = omega arith in
    let wait : WaitFor g.row.D (c.args.level + 1) (pages c.pack_level.new.cache)
    (items_of c.as_mut_slice.result.now) l.parents =
    subst (λ (es : List (Entry g.row.D)). WaitFor g.row.D (c.args.level + 1) (pages c.pack_level.new.cache)
    (items_of es) l.parents) (sym c.as_mut_slice.ensures.value)
    (subst (λ (level : ℕ). WaitFor g.row.D level (pages c.pack_level.new.cache)
    (items_of c.in_ok-parents.parents.items) l.parents) one l.wait) in
    if_ok_map c.pack.result (c.pack.ensures.packed (c.in_ok-parents.ensures.sound sound) l.parents wait)
    (λ root packs. level_packed g.row.D c.args.fanout.most c.args.level (pages c.args.cache.now)
    (pages c.pack_level.new.cache)
    (pages c.pack.new.cache) bs l.runs l.parents root
    (omega (
      arith,
      ap length waits.are,
      length-map bs item_in,
      length-map c.args.entries.now item_of,
      c.if-entries.false,
      c.entries.ensures,
    )) l.tiled l.made l.moves
    (subst (λ (level : ℕ). PackedAt g.row.D c.args.fanout.most level (pages c.pack_level.new.cache)
    (pages c.pack.new.cache) l.parents root) (sym one) packs))
