-- The object is read in the place where its identifier was found.
use Rattle.std.proofs.Common.{◌≡◌, ◌∙◌, ◌<◌, Some, Option, length, get_or, refl, sym, ap, arith}
use Rattle.bucket_page.specs.Layout.{Entry}
use Rattle.id_page.proofs.LeafReading.{count_of_leaf, no_leaf}
use Rattle.id_tree.proofs.ObjectLemmas.{none_in}
use Rattle.id_tree.proofs.PartingLemmas.{some_object}
use Rattle.id_tree.proofs.looks.found_on.Goals as goal

same_some : (a b : Entry) → ◌≡◌ {A = Option Entry} (Some a) (Some b) → a ≡ b
same_some a b e = cc

pub returns-then-not-has_leaf_head-clause-of_leaf : goal.returns-then-not-has_leaf_head-clause-of_leaf
returns-then-not-has_leaf_head-clause-of_leaf g c = λ objects is.
    let none = no_leaf g.row.D c.args.page.now
    (λ head. let yes = c.has_leaf_head.ensures.1 head in absurd (cc)) in absurd (cc)

pub returns-in-Some-object_at-clause-of_leaf : goal.returns-in-Some-object_at-clause-of_leaf
returns-in-Some-object_at-clause-of_leaf g c = λ objects is.
    let within : c.in-Some.place < length objects =
    omega (arith, c.in-Some.ensures.within, count_of_leaf g.row.D c.args.page.now objects is) in
    record {
      within = within;
      is = λ other.
          let read = same_some c.in-Some-object_at.object (get_or objects c.in-Some.place other)
          (c.in-Some-object_at.ensures.of_leaf objects other is within) in
          let id = c.in-Some.ensures.found objects other is in
          ap (λ i. (i, (get_or objects c.in-Some.place other).1)) id
          ∙ ap (λ (o : Entry). (c.args.id, o.1)) (sym read);
    }

pub returns-in-None-object_at-clause-of_leaf : goal.returns-in-None-object_at-clause-of_leaf
returns-in-None-object_at-clause-of_leaf g c = λ objects is.
    let within : c.in-Some.place < length objects =
    omega (arith, c.in-Some.ensures.within, count_of_leaf g.row.D c.args.page.now objects is) in
    let read = c.in-None-object_at.ensures.of_leaf objects some_object is within in
    absurd (cc)

pub returns-in-None-clause-of_leaf : goal.returns-in-None-clause-of_leaf
returns-in-None-clause-of_leaf g c = λ objects is.
    none_in c.args.id objects (c.in-None.ensures.absent objects is refl)

-- a page without the head is not looked into
pub returns-in-Some-object_at-clause-head : goal.returns-in-Some-object_at-clause-head
returns-in-Some-object_at-clause-head g c = λ some. c.has_leaf_head.ensures.0 c.if-not-has_leaf_head.false

pub returns-in-None-clause-head : goal.returns-in-None-clause-head
returns-in-None-clause-head g c = λ some. c.has_leaf_head.ensures.0 c.if-not-has_leaf_head.false
