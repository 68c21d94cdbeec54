-- The leaf has the object more.
use Rattle.std.proofs.Common.{refl}
use Rattle.page_cache.specs.Cache.{pages}
use Rattle.node_page.proofs.NodeLemmas.{on_ok}
use Rattle.id_tree.specs.Tree.{objects_in}
use Rattle.id_tree.proofs.AddLemmas.{leaf_grows}
use Rattle.id_tree.proofs.NodeLemmas.{node_there}
use Rattle.id_tree.proofs.adding.push_in.Goals as goal

pub returns-clause-damage : goal.returns-clause-damage
returns-clause-damage g c = c.push.ensures.damage

pub returns-clause-takes : goal.returns-clause-takes
returns-clause-takes g c = λ map row may.
    let old = pages c.args.cache.now in
    let live = node_there g.row.D old c.args.page 0 row may.stands.node in
    let leaf = may.stands.node.leaf refl in
    let room = may.room.leaf refl in
    record {
      sound = c.push.ensures.sound map live;
      tidy = c.push.ensures.tidy map.honest (objects_in row) leaf room;
      made = on_ok c.push.result (λ is absent. leaf_grows g.row.D old (pages c.push.new.cache) c.args.page 0
          c.args.edge row c.args.object.now.0 c.args.object.now.1 refl may absent
          (c.push.ensures.others map.honest live) is)
          (c.push.ensures.written map.honest (objects_in row) leaf room);
      faults = c.push.ensures.faults map.honest live;
    }
