-- Each refusal is the table's, and nothing refuses the object of a box that is answered.
use Rattle.std.proofs.Common.{◌≡◌, ◌∙◌, ℕ, true, nat_le, sym, ap, subst, inl, inr, refl}
use Rattle.std.specs.Prelude.{◌==◌, is_some}
use Rattle.std.specs.FinMap.{contains_key, get as find_in}
use Rattle.id_table.specs.Table.{IdsStand}
use Rattle.page_cache.specs.Cache.{pages}
use Rattle.plain_table.specs.Boxes.{dims_of, given_bounds, is_ordered}
use Rattle.plain_table.specs.Table.{Objects, layer_at, most_objects, object_count}
use Rattle.plain_table.specs.declared.refusal.Refusal.{Refusal}
use Rattle.store_law.specs.Lawful.{IsFault}
use Rattle.live_layers.specs.Changes.{Rose}
use Rattle.live_layers.proofs.AskLemmas.{device_refuses, risen_of, tested_other, tested_same}
use Rattle.live_layers.proofs.InsertLemmas.{bad_box, duplicate, full_so, none_refuses, room_so, too_many}
use Rattle.live_layers.proofs.InsertLemmas.{wrong_dims}
use Rattle.live_layers.proofs.QuestionLemmas.{asks_and_answers, asks_and_fails, asks_and_refuses}
use Rattle.live_layers.proofs.SpotLemmas.{spot_stays}
use Rattle.live_layers.proofs.RefusalLemmas.{fault_of_none, object_axes, object_bad, object_fits, object_many}
use Rattle.live_layers.proofs.RefusalLemmas.{object_there}
use Rattle.live_layers.proofs.layers.Layers.check_object.Goals as goal

pub returns-then-from-clause-allowed : goal.returns-then-from-clause-allowed
returns-then-from-clause-allowed g c = λ t name box sound located axes given.
    let there = c.args.located.now in
    let layer = layer_at t name in
    inl (wrong_dims layer c.args.id box (nat_le most_objects (object_count t))
    (tested_other (dims_of box) layer.dims there.dims located.dims
    (λ e. c.if-from.true (c.from.ensures ∙ e ∙ axes))))

pub returns-in_default-clause-allowed : goal.returns-in_default-clause-allowed
returns-in_default-clause-allowed g c = λ t name box sound located axes given.
    let old = c.args.self.now in
    let there = c.args.located.now in
    let layer = layer_at t name in
    let full = nat_le most_objects (object_count t) in
    let id = c.args.id in
    let its : there.dims ≡ g.row.D = sym c.from.ensures ∙ c.if-from.false in
    let right : (dims_of box == layer.dims) ≡ true =
    tested_same (dims_of box) layer.dims there.dims located.dims (its ∙ sym axes) in
    let test : is_ordered (dims_of box) (given_bounds box) ≡ is_some c.try_new.result =
    (λ i. is_ordered (axes i) (given i)) ∙ sym c.try_new.ensures.test in
    inl (bad_box layer id box full right (test ∙ ap is_some c.in_default.is))

pub returns-in-Err-clause-allowed : goal.returns-in-Err-clause-allowed
returns-in-Err-clause-allowed g c = λ t name box sound located axes given.
    let old = c.args.self.now in
    let there = c.args.located.now in
    let its : there.dims ≡ g.row.D = sym c.from.ensures ∙ c.if-from.false in
    let stand : IdsStand g.row.D (pages old.cache) located.layer.ids =
    subst (λ (k : ℕ). IdsStand k (pages old.cache) located.layer.ids) its located.stands.ids in
    let new = record old { cache = c.find.new.cache } in
    inr (subst (λ (x : Refusal). IsFault (Rose old new) x) (sym c.as_refusal.ensures)
    (device_refuses (Rose old new) c.in-Err.fault
    (c.in-Err.ensures.stands sound.map.honest located.layer.ids located.stands.ids_root_is stand)
    (risen_of _ _ c.in-Err.fault c.in-Err.ensures.asks.faults)))

pub returns-then-is_some-clause-allowed : goal.returns-then-is_some-clause-allowed
returns-then-is_some-clause-allowed g c = λ t name box sound located axes given.
    let old = c.args.self.now in
    let there = c.args.located.now in
    let layer = layer_at t name in
    let full = nat_le most_objects (object_count t) in
    let id = c.args.id in
    let its : there.dims ≡ g.row.D = sym c.from.ensures ∙ c.if-from.false in
    let right : (dims_of box == layer.dims) ≡ true =
    tested_same (dims_of box) layer.dims there.dims located.dims (its ∙ sym axes) in
    let test : is_ordered (dims_of box) (given_bounds box) ≡ is_some c.try_new.result =
    (λ i. is_ordered (axes i) (given i)) ∙ sym c.try_new.ensures.test in
    let stand : IdsStand g.row.D (pages old.cache) located.layer.ids =
    subst (λ (k : ℕ). IdsStand k (pages old.cache) located.layer.ids) its located.stands.ids in
    let found = c.in-Ok.ensures.found sound.map.honest located.layer.ids located.stands.ids_root_is stand in
    let has : contains_key layer.objects id ≡ c.is_some.result =
    ap (λ (o : Objects). is_some (find_in o id)) (sym located.stands.table) ∙ ap is_some (sym found)
    ∙ sym c.is_some.ensures in
    inl (duplicate layer id box full right (test ∙ ap is_some c.in-Some.is) (has ∙ c.if-is_some.true))

pub returns-then-self-ge-MOST_OBJECTS-clause-allowed : goal.returns-then-self-ge-MOST_OBJECTS-clause-allowed
returns-then-self-ge-MOST_OBJECTS-clause-allowed g c = λ t name box sound located axes given.
    let old = c.args.self.now in
    let there = c.args.located.now in
    let layer = layer_at t name in
    let full = nat_le most_objects (object_count t) in
    let id = c.args.id in
    let its : there.dims ≡ g.row.D = sym c.from.ensures ∙ c.if-from.false in
    let right : (dims_of box == layer.dims) ≡ true =
    tested_same (dims_of box) layer.dims there.dims located.dims (its ∙ sym axes) in
    let test : is_ordered (dims_of box) (given_bounds box) ≡ is_some c.try_new.result =
    (λ i. is_ordered (axes i) (given i)) ∙ sym c.try_new.ensures.test in
    let stand : IdsStand g.row.D (pages old.cache) located.layer.ids =
    subst (λ (k : ℕ). IdsStand k (pages old.cache) located.layer.ids) its located.stands.ids in
    let found = c.in-Ok.ensures.found sound.map.honest located.layer.ids located.stands.ids_root_is stand in
    let has : contains_key layer.objects id ≡ c.is_some.result =
    ap (λ (o : Objects). is_some (find_in o id)) (sym located.stands.table) ∙ ap is_some (sym found)
    ∙ sym c.is_some.ensures in
    inl (too_many layer id box full right (test ∙ ap is_some c.in-Some.is) (has ∙ c.if-is_some.false)
    (full_so old.object_count most_objects (object_count t) c.if-self-ge-MOST_OBJECTS.true sound.counted))

pub returns-clause-allowed : goal.returns-clause-allowed
returns-clause-allowed g c = λ t name box sound located axes given.
    let old = c.args.self.now in
    let there = c.args.located.now in
    let layer = layer_at t name in
    let full = nat_le most_objects (object_count t) in
    let id = c.args.id in
    let its : there.dims ≡ g.row.D = sym c.from.ensures ∙ c.if-from.false in
    let right : (dims_of box == layer.dims) ≡ true =
    tested_same (dims_of box) layer.dims there.dims located.dims (its ∙ sym axes) in
    let test : is_ordered (dims_of box) (given_bounds box) ≡ is_some c.try_new.result =
    (λ i. is_ordered (axes i) (given i)) ∙ sym c.try_new.ensures.test in
    let stand : IdsStand g.row.D (pages old.cache) located.layer.ids =
    subst (λ (k : ℕ). IdsStand k (pages old.cache) located.layer.ids) its located.stands.ids in
    let found = c.in-Ok.ensures.found sound.map.honest located.layer.ids located.stands.ids_root_is stand in
    let has : contains_key layer.objects id ≡ c.is_some.result =
    ap (λ (o : Objects). is_some (find_in o id)) (sym located.stands.table) ∙ ap is_some (sym found)
    ∙ sym c.is_some.ensures in
    none_refuses layer id box full right (test ∙ ap is_some c.in-Some.is) (has ∙ c.if-is_some.false)
    (room_so old.object_count most_objects (object_count t) c.if-self-ge-MOST_OBJECTS.false sound.counted)

pub returns-in-Err-clause-keeps : goal.returns-in-Err-clause-keeps
returns-in-Err-clause-keeps g c =
    asks_and_fails c.args.self.now _ c.in-Err.fault c.as_refusal.ensures (refl, refl, refl, refl)
    c.in-Err.ensures.asks c.in-Err.ensures.other_faults

pub returns-then-is_some-clause-keeps : goal.returns-then-is_some-clause-keeps
returns-then-is_some-clause-keeps g c =
    asks_and_refuses c.args.self.now _ refl (refl, refl, refl, refl) c.in-Ok.ensures.asks

pub returns-then-self-ge-MOST_OBJECTS-clause-keeps : goal.returns-then-self-ge-MOST_OBJECTS-clause-keeps
returns-then-self-ge-MOST_OBJECTS-clause-keeps g c =
    asks_and_refuses c.args.self.now _ refl (refl, refl, refl, refl) c.in-Ok.ensures.asks

pub returns-clause-keeps : goal.returns-clause-keeps
returns-clause-keeps g c = asks_and_answers c.args.self.now _ (refl, refl, refl, refl) c.in-Ok.ensures.asks

pub returns-clause-spot : goal.returns-clause-spot
returns-clause-spot g c = λ t sound.
    spot_stays g.row.D c.args.self.now (record c.args.self.now { cache = c.find.new.cache })
    (c.in-Ok.ensures.asks.map.pages_stay sound.map.honest) refl 0 c.args.id c.in-Ok.sought.spot
    c.args.located.now (c.in-Ok.ensures.spot sound.map.honest)

pub returns-then-from-clause-in_turn : goal.returns-then-from-clause-in_turn
returns-then-from-clause-in_turn g c = λ box axes given.
    let dims = c.args.located.now.dims in
    inl (object_axes dims box (nat_le most_objects c.args.self.now.object_count)
    (tested_other (dims_of box) dims dims refl (λ e. c.if-from.true (c.from.ensures ∙ e ∙ axes))))

pub returns-in_default-clause-in_turn : goal.returns-in_default-clause-in_turn
returns-in_default-clause-in_turn g c = λ box axes given.
    let dims = c.args.located.now.dims in
    let its : dims ≡ g.row.D = sym c.from.ensures ∙ c.if-from.false in
    let test : is_ordered (dims_of box) (given_bounds box) ≡ is_some c.try_new.result =
    (λ i. is_ordered (axes i) (given i)) ∙ sym c.try_new.ensures.test in
    inl (object_bad dims box (nat_le most_objects c.args.self.now.object_count)
    (tested_same (dims_of box) dims dims refl (its ∙ sym axes)) (test ∙ ap is_some c.in_default.is))

pub returns-in-Err-clause-in_turn : goal.returns-in-Err-clause-in_turn
returns-in-Err-clause-in_turn g c = λ box axes given.
    inr (fault_of_none c.in-Err.fault _ c.as_refusal.ensures)

pub returns-then-is_some-clause-in_turn : goal.returns-then-is_some-clause-in_turn
returns-then-is_some-clause-in_turn g c = λ box axes given.
    let dims = c.args.located.now.dims in
    let its : dims ≡ g.row.D = sym c.from.ensures ∙ c.if-from.false in
    let test : is_ordered (dims_of box) (given_bounds box) ≡ is_some c.try_new.result =
    (λ i. is_ordered (axes i) (given i)) ∙ sym c.try_new.ensures.test in
    inl (object_there dims box (nat_le most_objects c.args.self.now.object_count)
    (tested_same (dims_of box) dims dims refl (its ∙ sym axes)) (test ∙ ap is_some c.in-Some.is))

pub returns-then-self-ge-MOST_OBJECTS-clause-in_turn : goal.returns-then-self-ge-MOST_OBJECTS-clause-in_turn
returns-then-self-ge-MOST_OBJECTS-clause-in_turn g c = λ box axes given.
    let count = c.args.self.now.object_count in
    let dims = c.args.located.now.dims in
    let its : dims ≡ g.row.D = sym c.from.ensures ∙ c.if-from.false in
    let test : is_ordered (dims_of box) (given_bounds box) ≡ is_some c.try_new.result =
    (λ i. is_ordered (axes i) (given i)) ∙ sym c.try_new.ensures.test in
    inl (object_many dims box (nat_le most_objects count)
    (tested_same (dims_of box) dims dims refl (its ∙ sym axes)) (test ∙ ap is_some c.in-Some.is)
    (full_so count most_objects count c.if-self-ge-MOST_OBJECTS.true refl))

pub returns-clause-in_turn : goal.returns-clause-in_turn
returns-clause-in_turn g c = λ box axes given.
    let count = c.args.self.now.object_count in
    let dims = c.args.located.now.dims in
    let its : dims ≡ g.row.D = sym c.from.ensures ∙ c.if-from.false in
    let test : is_ordered (dims_of box) (given_bounds box) ≡ is_some c.try_new.result =
    (λ i. is_ordered (axes i) (given i)) ∙ sym c.try_new.ensures.test in
    object_fits dims box (nat_le most_objects count)
    (tested_same (dims_of box) dims dims refl (its ∙ sym axes)) (test ∙ ap is_some c.in-Some.is)
    (room_so count most_objects count c.if-self-ge-MOST_OBJECTS.false refl)
