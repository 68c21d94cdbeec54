-- The leaf has enough objects, and all of them were appended.
use Rattle.std.proofs.Common.{◌≡◌, List, Option, Some, None, IsSome, refl, rules}
use Rattle.std.proofs.Common.{arith}
use Rattle.bucket_page.specs.Layout.{Entry}
use Rattle.node_page.proofs.NodeLemmas.{on_ok}
use Rattle.id_page.specs.Leaf.{leaf_at}
use Rattle.id_page.proofs.LeafReading.{leaf_spells}
use Rattle.id_tree.proofs.check.add_leaf.Goals as goal

some_of : (o : Option (List Entry)) → IsSome o → (objects : List Entry) × (o ≡ Some objects)
some_of None is = absurd (cc)
some_of (Some objects) is = (objects, refl)

is_some : (o : Option (List Entry)) (objects : List Entry) → o ≡ Some objects → IsSome o
is_some None objects e = absurd (cc)
is_some (Some xs) objects e = refl

pub add_objects-requires : goal.add_objects-requires
add_objects-requires g c =
    let leaf = some_of (leaf_at g.row.D c.args.page.now) (c.is_leaf.ensures.0 c.if-not-is_leaf.false) in
    (search rules, (c.requires.dims, (leaf_spells g.row.D c.args.page.now leaf.0 leaf.1).head.few))

pub returns-then-not-is_leaf-clause-stands : goal.returns-then-not-is_leaf-clause-stands
returns-then-not-is_leaf-clause-stands g c = λ objects is may.
    let yes = c.is_leaf.ensures.1 (is_some (leaf_at g.row.D c.args.page.now) objects is) in
    absurd (cc)

pub returns-then-not-are_enough-clause-stands : goal.returns-then-not-are_enough-clause-stands
returns-then-not-are_enough-clause-stands g c = λ objects is may.
    let count = c.count_at.ensures.of_leaf g.row.D objects is in
    let yes = c.are_enough.ensures.accepts (omega (arith, count, may.some))
    (λ off. let many = may.large off in omega (arith, count, many, c.least_in_leaf.ensures)) in
    absurd (cc)

pub returns-clause-found : goal.returns-clause-found
returns-clause-found g c =
    let leaf = some_of (leaf_at g.row.D c.args.page.now) (c.is_leaf.ensures.0 c.if-not-is_leaf.false) in
    let count = c.count_at.ensures.of_leaf g.row.D leaf.0 leaf.1 in
    let yes = c.if-not-are_enough.false in
    let some = c.are_enough.ensures.some yes in
    on_ok c.add_objects.result (λ adds. record {
      objects = leaf.0;
      is = leaf.1;
      some = omega (arith, some, count);
      large = λ off. let many = c.are_enough.ensures.large yes off in
          omega (arith, many, count, c.least_in_leaf.ensures);
      adds = adds;
    }) (c.add_objects.ensures.found leaf.0 leaf.1)

pub returns-clause-stands : goal.returns-clause-stands
returns-clause-stands g c = λ objects is may. c.add_objects.ensures.stands objects is may.from may.upto
    may.single
