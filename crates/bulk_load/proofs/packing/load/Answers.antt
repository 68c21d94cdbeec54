-- The objects wait, and are packed.
use Rattle.std.proofs.Common.{arith}
use Rattle.std.proofs.lemmas.List.{length-map}
use Rattle.page_cache.specs.Cache.{pages}
use Rattle.tree_node.specs.Nodes.{item_of, items_of}
use Rattle.bulk_load.specs.Packed.{objects_of}
use Rattle.bulk_load.proofs.LoadLemmas.{all_loaded, objects_wait}
use Rattle.bulk_load.proofs.packing.load.Goals as goal

pub returns-clause-loaded : goal.returns-clause-loaded
returns-clause-loaded g c =
    λ sound. all_loaded g.row.D c.args.fanout.most (pages c.args.cache.now) (pages c.pack.new.cache)
    (items_of c.args.objects.now) c.pack.result c.requires.dims c.args.fanout.within.0
    (c.pack.ensures.packed sound (objects_of (items_of c.args.objects.now))
    (objects_wait g.row.D (pages c.args.cache.now) (items_of c.args.objects.now)
    (λ i below. c.see_boxes.ensures i (omega (arith, below, length-map c.args.objects.now item_of)))))
