-- The goals of `add_run` that are proved by hand: where the chain of the objects begins, and what is put
-- there.
use Rattle.std.proofs.Common.{◌≡◌, ◌∙◌, ◌<◌, ◌≤◌, ◌⊎◌, ℕ, None, Some, ap, arith, inl, inr, length, subst, sym}
use Rattle.std.proofs.Common.{take, IsSome, ⊎_elim}
use Rattle.page_file.specs.Fault.{IsOfDevice}
use Rattle.page_cache.specs.Cache.{Grows, given, pages}
use Rattle.page_cache.proofs.Results.{if_ok_map}
use Rattle.page_cache.specs.Calls.{asks_and_changes, asks_and_gives_up, asks_in_turn}
use Rattle.node_page.specs.Faults.{IsNoDamage}
use Rattle.node_page.proofs.DamageLemmas.{damaged_read}
use Rattle.node_page.proofs.NodeLemmas.{at_error, on_ok}
use Rattle.id_chains.specs.Changes.{Fills}
use Rattle.id_chains.specs.Pages.{IsRun, IsWholeRun, PutsBefore, first_class, with_more}
use Rattle.id_chains.specs.Table.{bucket_in, chain_at, objects_of}
use Rattle.id_words.specs.Damage.{MayBreakAt}
use Rattle.id_chains.specs.Walks.{IsBucket}
use Rattle.id_chains.proofs.AddLemmas.{puts_from}
use Rattle.id_chains.proofs.BucketLemmas.{if_err, is_there}
use Rattle.id_chains.proofs.FillLemmas.{class_of_first, first_new}
use Rattle.id_chains.proofs.FirstLemmas.{content_of_one, directory_there, put_before_keeps, put_in_keeps}
use Rattle.id_chains.proofs.FirstLemmas.{refused_at, spells_one}
use Rattle.id_words.proofs.BreakLemmas.{breaks_before, no_damage}
use Rattle.id_chains.proofs.MeetLemmas.{begins_chain, named_live, same_names}
use Rattle.id_chains.proofs.ManyLemmas.{fills_before, fills_in_place}
use Rattle.id_words.proofs.Results.{done_so, if_both, ok_of, on_done}
use Rattle.id_chains.proofs.StartLemmas.{first_is_live, starts}
use Rattle.id_chains.proofs.TidyLemmas.{keep_in_turn, puts_keep, same_keep}
use Rattle.id_chains.proofs.WalkLemmas.{begins_at}
use Rattle.id_chains.proofs.adding.add_run.Goals as goal

pub returns-in_err-room-clause-changes : goal.returns-in_err-room-clause-changes
returns-in_err-room-clause-changes g c =
    asks_and_gives_up c.args.cache.now c.read_link.new.cache c.has_room.new.cache c.in_err-room.field-0.0
    c.from_residual-in_err-room.result c.from_residual-in_err-room.ensures.1
    c.in_ok-first.ensures.asks c.in_err-room.ensures.asks

pub returns-in_err-room-clause-faults : goal.returns-in_err-room-clause-faults
returns-in_err-room-clause-faults g c = λ map t at stands.
    let class = c.class_of-class.result in
    let s = starts g.row.D c.args.directory class c.in_ok-first.first c.args.cache.now c.read_link.new.cache
    c.in_ok-first.ensures.asks c.in_ok-first.ensures.link map.honest c.class_of-class.ensures.bound t at
    stands in
    at_error c.from_residual-in_err-room.result c.in_err-room.field-0.0
    (IsNoDamage c.has_room.new.cache) c.from_residual-in_err-room.ensures.1
    (inl (c.in_err-room.ensures.there s.honest (chain_at t class) s.begins_now))

pub returns-then-room-clause-changes : goal.returns-then-room-clause-changes
returns-then-room-clause-changes g c =
    asks_and_changes c.args.cache.now c.has_room.new.cache c.put_in.new.cache c.put_in.result
    (asks_in_turn c.args.cache.now c.read_link.new.cache c.has_room.new.cache None c.in_ok-first.ensures.asks
    c.in_ok-room.ensures.asks) c.put_in.ensures.changes

pub returns-then-room-clause-count : goal.returns-then-room-clause-count
returns-then-room-clause-count g c =
    let run : ℕ → Type 0 = IsRun c.class_of-class.result c.args.objects.now in
    if_ok_map {P = run} {Q = λ n. (0 < n) × (n ≤ length c.args.objects.now)} c.put_in.result
    c.put_in.ensures.run (λ n r. (r.some, r.few))

pub returns-then-room-clause-whole : goal.returns-then-room-clause-whole
returns-then-room-clause-whole g c =
    let run : ℕ → Type 0 = IsRun c.class_of-class.result c.args.objects.now in
    let none : Grows 0 c.args.cache.now c.put_in.new.cache = omega (
      arith,
      c.in_ok-first.ensures.asks.map.next,
      c.in_ok-first.ensures.asks.map.free_count,
      c.in_ok-room.ensures.asks.map.next,
      c.in_ok-room.ensures.asks.map.free_count,
      c.put_in.ensures.grows,
    ) in
    if_ok_map {P = run}
    {Q = λ n. Grows 0 c.args.cache.now c.put_in.new.cache ⊎ IsWholeRun c.args.objects.now n}
    c.put_in.result c.put_in.ensures.run (λ n r. inl none)

pub returns-then-room-clause-sound : goal.returns-then-room-clause-sound
returns-then-room-clause-sound g c = λ map t at stands.
    let class = c.class_of-class.result in
    let first = c.in_ok-first.first in
    let s = starts g.row.D c.args.directory class first c.args.cache.now c.read_link.new.cache
    c.in_ok-first.ensures.asks c.in_ok-first.ensures.link map.honest c.class_of-class.ensures.bound t at
    stands in
    let some = c.in_ok-room.ensures.some c.if-room.true in
    let asks =
    asks_in_turn c.args.cache.now c.read_link.new.cache c.has_room.new.cache None
    c.in_ok-first.ensures.asks c.in_ok-room.ensures.asks in
    c.put_in.ensures.sound (asks.map.sound.0 map)
    (first_is_live g.row.D first (chain_at t class) c.args.cache.now c.has_room.new.cache asks map.honest
    s.begins some)

pub returns-then-room-clause-added : goal.returns-then-room-clause-added
returns-then-room-clause-added g c = λ map t at stands fresh.
    let m = pages c.args.cache.now in
    let now = pages c.put_in.new.cache in
    let objects = c.args.objects.now in
    let class = c.class_of-class.result in
    let first = c.in_ok-first.first in
    let s = starts g.row.D c.args.directory class first c.args.cache.now c.read_link.new.cache
    c.in_ok-first.ensures.asks c.in_ok-first.ensures.link map.honest c.class_of-class.ensures.bound t at
    stands in
    let some = c.in_ok-room.ensures.some c.if-room.true in
    let b = begins_at g.row.D m first (chain_at t class) s.begins some in
    let asks =
    asks_in_turn c.args.cache.now c.read_link.new.cache c.has_room.new.cache None
    c.in_ok-first.ensures.asks c.in_ok-room.ensures.asks in
    let there = ap (bucket_in g.row.D) (c.in_ok-first.ensures.asks.map.pages_stay map.honest first)
    ∙ b.there in
    let few = c.in_ok-room.ensures.room s.honest b.content there c.if-room.true in
    let live =
    first_is_live g.row.D first (chain_at t class) c.args.cache.now c.has_room.new.cache asks map.honest
    s.begins some in
    let honest = asks.gate.honest.0 map.honest in
    if_both c.put_in.result (IsRun class objects)
    (λ n. bucket_in g.row.D (now first) ≡ Some (with_more b.content (take n objects)))
    (λ n. Fills g.row.D m now t (take n objects))
    c.put_in.ensures.run
    (c.put_in.ensures.written honest b.content
    (ap (bucket_in g.row.D) (asks.map.pages_stay map.honest first) ∙ b.there) few)
    (λ n run written. fills_in_place g.row.D m now t class (take n objects) first b.content stands
    c.class_of-class.ensures.bound (first_new n objects (objects_of t) fresh) run.placed s.link b.there
    written
    (λ k other. c.put_in.ensures.others honest live k other ∙ asks.map.pages_stay map.honest k) some)

pub returns-then-room-clause-faults : goal.returns-then-room-clause-faults
returns-then-room-clause-faults g c = λ map t at stands.
    let class = c.class_of-class.result in
    let first = c.in_ok-first.first in
    let s = starts g.row.D c.args.directory class first c.args.cache.now c.read_link.new.cache
    c.in_ok-first.ensures.asks c.in_ok-first.ensures.link map.honest c.class_of-class.ensures.bound t at
    stands in
    let some = c.in_ok-room.ensures.some c.if-room.true in
    let asks =
    asks_in_turn c.args.cache.now c.read_link.new.cache c.has_room.new.cache None
    c.in_ok-first.ensures.asks c.in_ok-room.ensures.asks in
    let b = begins_at g.row.D (pages c.args.cache.now) first (chain_at t class) s.begins some in
    let there = ap (bucket_in g.row.D) (c.in_ok-first.ensures.asks.map.pages_stay map.honest first)
    ∙ b.there in
    let few = c.in_ok-room.ensures.room s.honest b.content there c.if-room.true in
    if_err c.put_in.result IsOfDevice (IsNoDamage c.put_in.new.cache) (λ f is. inl is)
    (c.put_in.ensures.faults (asks.gate.honest.0 map.honest) b.content
    (ap (bucket_in g.row.D) (asks.map.pages_stay map.honest first) ∙ b.there) few)

pub returns-clause-changes : goal.returns-clause-changes
returns-clause-changes g c =
    asks_and_changes c.args.cache.now c.has_room.new.cache c.put_alone.new.cache c.put_alone.result
    (asks_in_turn c.args.cache.now c.read_link.new.cache c.has_room.new.cache None c.in_ok-first.ensures.asks
    c.in_ok-room.ensures.asks) c.put_alone.ensures.changes

pub returns-clause-count : goal.returns-clause-count
returns-clause-count g c =
    let run : ℕ → Type 0 = IsRun c.class_of-class.result c.args.objects.now in
    if_ok_map {P = run} {Q = λ n. (0 < n) × (n ≤ length c.args.objects.now)} c.put_alone.result
    c.put_alone.ensures.run (λ n r. (r.some, r.few))

pub returns-clause-whole : goal.returns-clause-whole
returns-clause-whole g c =
    let whole : ℕ → Type 0 = IsWholeRun c.args.objects.now in
    if_ok_map {P = whole} {Q = λ n. Grows 0 c.args.cache.now c.put_alone.new.cache ⊎ whole n}
    c.put_alone.result c.put_alone.ensures.whole (λ n w. inr w)

pub returns-clause-added : goal.returns-clause-added
returns-clause-added g c = λ map t at stands fresh.
    let m = pages c.args.cache.now in
    let mid = pages c.has_room.new.cache in
    let now = pages c.put_alone.new.cache in
    let objects = c.args.objects.now in
    let class = c.class_of-class.result in
    let first = c.in_ok-first.first in
    let s = starts g.row.D c.args.directory class first c.args.cache.now c.read_link.new.cache
    c.in_ok-first.ensures.asks c.in_ok-first.ensures.link map.honest c.class_of-class.ensures.bound t at
    stands in
    let full = c.in_ok-room.ensures.full s.honest (chain_at t class) s.begins_now c.if-room.false in
    let asks =
    asks_in_turn c.args.cache.now c.read_link.new.cache c.has_room.new.cache None
    c.in_ok-first.ensures.asks c.in_ok-room.ensures.asks in
    let there = asks.map.pages_stay map.honest c.args.directory ∙ ap m (sym at) ∙ stands.there in
    if_both c.put_alone.result (IsRun class objects)
    (λ n. PutsBefore g.row.D mid now c.args.directory class first (take n objects) stands.directory)
    (λ n. Fills g.row.D m now t (take n objects))
    c.put_alone.ensures.run (c.put_alone.ensures.put (asks.map.sound.0 map) stands.directory there)
    (λ n run put. fills_before g.row.D m now t class (take n objects) first stands
    c.class_of-class.ensures.bound (first_new n objects (objects_of t) fresh) run.placed s.link
    (subst (λ d. PutsBefore g.row.D m now d class first (take n objects) stands.directory) (sym at)
    (puts_from g.row.D m mid now c.args.directory class first (take n objects) stands.directory
    (asks.map.pages_stay map.honest) put)) full)

pub returns-clause-sound : goal.returns-clause-sound
returns-clause-sound g c = λ map t at stands.
    let asks =
    asks_in_turn c.args.cache.now c.read_link.new.cache c.has_room.new.cache None
    c.in_ok-first.ensures.asks c.in_ok-room.ensures.asks in
    let there = asks.map.pages_stay map.honest c.args.directory ∙ ap (pages c.args.cache.now) (sym at)
    ∙ stands.there in
    c.put_alone.ensures.sound (asks.map.sound.0 map)
    (is_there (pages c.has_room.new.cache c.args.directory) stands.directory there)

pub returns-clause-faults : goal.returns-clause-faults
returns-clause-faults g c = λ map t at stands.
    let asks =
    asks_in_turn c.args.cache.now c.read_link.new.cache c.has_room.new.cache None
    c.in_ok-first.ensures.asks c.in_ok-room.ensures.asks in
    let there = asks.map.pages_stay map.honest c.args.directory ∙ ap (pages c.args.cache.now) (sym at)
    ∙ stands.there in
    c.put_alone.ensures.faults (asks.map.sound.0 map)
    (is_there (pages c.has_room.new.cache c.args.directory) stands.directory there)

pub returns-then-room-clause-tidy : goal.returns-then-room-clause-tidy
returns-then-room-clause-tidy g c = λ map t at stands.
    let D = g.row.D in
    let old = pages c.args.cache.now in
    let mid = pages c.has_room.new.cache in
    let now = pages c.put_in.new.cache in
    let class = c.class_of-class.result in
    let first = c.in_ok-first.first in
    let s = starts D c.args.directory class first c.args.cache.now c.read_link.new.cache
    c.in_ok-first.ensures.asks c.in_ok-first.ensures.link map.honest c.class_of-class.ensures.bound t at
    stands in
    let b = begins_at D old first (chain_at t class) s.begins (c.in_ok-room.ensures.some c.if-room.true) in
    let asks =
    asks_in_turn c.args.cache.now c.read_link.new.cache c.has_room.new.cache None
    c.in_ok-first.ensures.asks c.in_ok-room.ensures.asks in
    let stay = asks.map.pages_stay map.honest in
    on_ok c.put_in.result (keep_in_turn D old mid now (same_keep D old mid stay))
    (c.put_in.ensures.tidy (asks.gate.honest.0 map.honest) b.content
    (ap (bucket_in D) (stay first) ∙ b.there))

pub returns-clause-tidy : goal.returns-clause-tidy
returns-clause-tidy g c = λ map t at stands.
    let D = g.row.D in
    let old = pages c.args.cache.now in
    let mid = pages c.has_room.new.cache in
    let now = pages c.put_alone.new.cache in
    let class = c.class_of-class.result in
    let first = c.in_ok-first.first in
    let asks =
    asks_in_turn c.args.cache.now c.read_link.new.cache c.has_room.new.cache None
    c.in_ok-first.ensures.asks c.in_ok-room.ensures.asks in
    let stay = asks.map.pages_stay map.honest in
    let there = stay c.args.directory ∙ ap old (sym at) ∙ stands.there in
    ok_of c.put_alone.result
    (c.put_alone.ensures.put (asks.map.sound.0 map) stands.directory there)
    (λ n put. keep_in_turn D old mid now (same_keep D old mid stay)
    (puts_keep D mid now c.args.directory class first (take n c.args.objects.now) stands.directory there
    stands.spelled put))

pub returns-in_err-first-clause-damage : goal.returns-in_err-first-clause-damage
returns-in_err-first-clause-damage g c = λ h.
    let old = c.args.cache.now in
    let d = c.args.directory in
    at_error c.from_residual.result c.in_err-first.field-0.0 _
    c.from_residual.ensures.1
    (λ n damaged. inl (inl
    (damaged_read c.in_err-first.field-0.0 d n (c.in_err-first.ensures.damage h) damaged)))

pub returns-in_err-room-clause-damage : goal.returns-in_err-room-clause-damage
returns-in_err-room-clause-damage g c = λ h.
    let old = c.args.cache.now in
    let first = c.in_ok-first.first in
    let d = c.args.directory in
    let honest = c.in_ok-first.ensures.asks.gate.honest.0 h in
    let same : c.class_of-class.result ≡ first_class c.args.objects.now =
    c.class_of-class.ensures.value
    ∙ class_of_first c.args.objects.now c.index-objects-0.result c.requires.some in
    at_error c.from_residual-in_err-room.result c.in_err-room.field-0.0 _
    c.from_residual-in_err-room.ensures.1
    (λ n damaged. inl (begins_chain g.row.D (given old) d c.class_of-class.result
    (first_class c.args.objects.now) first n same (c.in_ok-first.ensures.names h) c.in_err-room.ensures.met
    (damaged_read c.in_err-room.field-0.0 first n (c.in_err-room.ensures.damage honest) damaged)))

pub returns-then-room-clause-damage : goal.returns-then-room-clause-damage
returns-then-room-clause-damage g c = λ h.
    let old = c.args.cache.now in
    let first = c.in_ok-first.first in
    let d = c.args.directory in
    let honest = c.in_ok-room.ensures.asks.gate.honest.0 (c.in_ok-first.ensures.asks.gate.honest.0 h) in
    let same : c.class_of-class.result ≡ first_class c.args.objects.now =
    c.class_of-class.ensures.value
    ∙ class_of_first c.args.objects.now c.index-objects-0.result c.requires.some in
    if_err c.put_in.result _ _
    (λ f either n damaged. inl (begins_chain g.row.D (given old) d c.class_of-class.result
    (first_class c.args.objects.now) first n same (c.in_ok-first.ensures.names h)
    (c.in_ok-room.ensures.some c.if-room.true) (damaged_read f first n either damaged)))
    (c.put_in.ensures.damage honest)

pub returns-clause-damage : goal.returns-clause-damage
returns-clause-damage g c = λ h.
    let old = c.args.cache.now in
    let d = c.args.directory in
    let mid = c.has_room.new.cache in
    let asks =
    asks_in_turn old c.read_link.new.cache mid None c.in_ok-first.ensures.asks c.in_ok-room.ensures.asks in
    if_err c.put_alone.result _ _
    (λ f said n damaged. ⊎_elim
    (λ (is : n ≡ d). inl (inl is))
    (λ (breaks : MayBreakAt mid n). inr (breaks_before old mid n asks h breaks))
    (said n damaged))
    (c.put_alone.ensures.damage (asks.gate.honest.0 h))

pub returns-in_err-first-clause-spelled : goal.returns-in_err-first-clause-spelled
returns-in_err-first-clause-spelled g c = λ map.
    let old = c.args.cache.now in
    let d = c.args.directory in
    at_error c.from_residual.result c.in_err-first.field-0.0 _
    c.from_residual.ensures.1
    (λ n damaged. inl
    (damaged_read c.in_err-first.field-0.0 d n (c.in_err-first.ensures.damage map.honest) damaged))

pub returns-in_err-room-clause-spelled : goal.returns-in_err-room-clause-spelled
returns-in_err-room-clause-spelled g c = λ map.
    let D = g.row.D in
    let old = c.args.cache.now in
    let first = c.in_ok-first.first in
    let f = c.in_err-room.field-0.0 in
    let asks = c.in_ok-first.ensures.asks in
    let honest = asks.gate.honest.0 map.honest in
    at_error c.from_residual-in_err-room.result f _
    c.from_residual-in_err-room.ensures.1
    (λ n damaged.
    let is = damaged_read f first n (c.in_err-room.ensures.damage honest) damaged in
    inr (λ (bucket : IsBucket D (pages old n)).
    let one = content_of_one D (pages old first) (subst (λ (k : ℕ). IsBucket D (pages old k)) is bucket) in
    no_damage f n
    (c.in_err-room.ensures.spelled honest one.0
    (ap (bucket_in D) (asks.map.pages_stay map.honest first) ∙ one.1))
    damaged))

pub returns-then-room-clause-spelled : goal.returns-then-room-clause-spelled
returns-then-room-clause-spelled g c = λ map.
    let D = g.row.D in
    let old = c.args.cache.now in
    let first = c.in_ok-first.first in
    let mid = c.has_room.new.cache in
    let read = c.in_ok-first.ensures.asks in
    let asks =
    asks_in_turn old c.read_link.new.cache mid None read c.in_ok-room.ensures.asks in
    let honest = asks.gate.honest.0 map.honest in
    refused_at c.put_in.result c.args.directory first (λ n. IsBucket D (pages old n))
    (c.put_in.ensures.damage honest)
    (λ bucket.
    let one = content_of_one D (pages old first) bucket in
    let few =
    c.in_ok-room.ensures.room (read.gate.honest.0 map.honest) one.0
    (ap (bucket_in D) (read.map.pages_stay map.honest first) ∙ one.1) c.if-room.true in
    c.put_in.ensures.faults honest one.0 (ap (bucket_in D) (asks.map.pages_stay map.honest first) ∙ one.1)
    few)

pub returns-clause-spelled : goal.returns-clause-spelled
returns-clause-spelled g c = λ map.
    let old = c.args.cache.now in
    let d = c.args.directory in
    let mid = c.has_room.new.cache in
    let asks =
    asks_in_turn old c.read_link.new.cache mid None c.in_ok-first.ensures.asks c.in_ok-room.ensures.asks in
    if_err c.put_alone.result _ _
    (λ f said n damaged. ⊎_elim
    (λ (is : n ≡ d). inl is)
    (λ (breaks : MayBreakAt mid n). absurd (breaks.0 (asks.map.sound.0 map)))
    (said n damaged))
    (c.put_alone.ensures.damage (asks.gate.honest.0 map.honest))

pub returns-then-room-clause-kept : goal.returns-then-room-clause-kept
returns-then-room-clause-kept g c = λ map.
    let D = g.row.D in
    let old = c.args.cache.now in
    let mid = c.has_room.new.cache in
    let new = c.put_in.new.cache in
    let first = c.in_ok-first.first in
    let read = c.in_ok-first.ensures.asks in
    let asks =
    asks_in_turn old c.read_link.new.cache mid None read c.in_ok-room.ensures.asks in
    let honest_read = read.gate.honest.0 map.honest in
    let named = c.in_ok-room.ensures.head honest_read c.if-room.true in
    let head =
    same_names D (given old) (given c.read_link.new.cache) (λ k. read.map.given_stay map.honest k) first
    named.0 named.1 in
    let live =
    subst IsSome (sym (asks.map.pages_stay map.honest first)) (named_live D old first named.0 map head) in
    let honest = asks.gate.honest.0 map.honest in
    on_done c.put_in.result (λ count is.
    put_in_keeps D c.args.directory c.class_of-class.result first named.0 old mid new asks map
    (c.in_ok-first.ensures.names map.honest) head (c.put_in.ensures.sound (asks.map.sound.0 map) live)
    (c.put_in.ensures.others honest live)
    (λ bucket.
    let one = content_of_one D (pages old first) bucket in
    let few =
    c.in_ok-room.ensures.room honest_read one.0
    (ap (bucket_in D) (read.map.pages_stay map.honest first) ∙ one.1) c.if-room.true in
    spells_one D (pages new first) _
    (done_so c.put_in.result count (λ n. bucket_in D (pages new first)
    ≡ Some (with_more one.0 (take n c.args.objects.now))) is
    (c.put_in.ensures.written honest one.0
    (ap (bucket_in D) (asks.map.pages_stay map.honest first) ∙ one.1) few))))

pub returns-clause-kept : goal.returns-clause-kept
returns-clause-kept g c = λ map.
    let D = g.row.D in
    let old = c.args.cache.now in
    let mid = c.has_room.new.cache in
    let new = c.put_alone.new.cache in
    let first = c.in_ok-first.first in
    let d = c.args.directory in
    let class = c.class_of-class.result in
    let asks =
    asks_in_turn old c.read_link.new.cache mid None c.in_ok-first.ensures.asks c.in_ok-room.ensures.asks in
    let names = c.in_ok-first.ensures.names map.honest in
    let there = directory_there D old d class first map names in
    let there_mid = asks.map.pages_stay map.honest d ∙ there in
    let live = is_there (pages mid d) names.0 there_mid in
    let map_mid = asks.map.sound.0 map in
    ok_of c.put_alone.result (c.put_alone.ensures.put map_mid names.0 there_mid)
    (λ n put. put_before_keeps D d class first old mid new (take n c.args.objects.now) names.0 asks map there
    names.2 (c.put_alone.ensures.sound map_mid live) put)
