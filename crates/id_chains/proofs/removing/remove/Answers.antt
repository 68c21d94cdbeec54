-- The goals of `remove` that are proved by hand: where the object is, and what is left of its chain.
use Rattle.std.proofs.Common.{◌≡◌, ◌∙◌, ◌<◌, ◌⊎◌, ℕ, IsSome, None, false, ap, arith, inl, inr, subst, sym}
use Rattle.std.proofs.Common.{⊎_elim}
use Rattle.page_file.specs.Fault.{IsOfDevice}
use Rattle.page_file.specs.declared.fault.Fault.TheVariants as fault
use Rattle.page_cache.specs.Cache.{IsPageMap, given, pages, touched_of}
use Rattle.page_cache.specs.Calls.{asks_and_gives_up, asks_changes, asks_in_turn, changes_and_refuses}
use Rattle.page_cache.specs.Calls.{changes_in_turn, fault_in, no_call_asks}
use Rattle.node_page.proofs.DamageLemmas.{damaged_read}
use Rattle.node_page.proofs.NodeLemmas.{at_error, on_ok}
use Rattle.id_chains.specs.Pages.{Shrinks}
use Rattle.id_chains.specs.Table.{bucket_in, chain_at, class_of, link_at}
use Rattle.id_chains.specs.Walks.{MeetsInChain}
use Rattle.id_chains.proofs.AddLemmas.{in_chain}
use Rattle.id_chains.proofs.BucketLemmas.{if_err, is_there, page_of_bucket, some_object}
use Rattle.id_chains.proofs.GetLemmas.{chain_is_short}
use Rattle.id_chains.proofs.HolderLemmas.{PutsAt}
use Rattle.id_chains.proofs.MeetLemmas.{bucket_met, directory_live, first_met, first_names, met_in_chain}
use Rattle.id_words.proofs.WriteLemmas.{not_both, stays_live}
use Rattle.id_chains.proofs.MeetLemmas.{named_live, one_of_two}
use Rattle.id_chains.proofs.ReachLemmas.{reached}
use Rattle.id_chains.proofs.ShrinkLemmas.{first_now, removes_from}
use Rattle.id_chains.proofs.StartLemmas.{starts}
use Rattle.id_chains.proofs.TidyLemmas.{keep_in_turn, same_keep, shrinks_keep}
use Rattle.id_chains.proofs.removing.remove.Goals as goal

pub returns-in_err-holder-clause-faults : goal.returns-in_err-holder-clause-faults
returns-in_err-holder-clause-faults g c = λ map t at stands has.
    let small : class_of c.args.id < 1000 = omega arith in
    let s = starts g.row.D c.args.directory (class_of c.args.id) c.in_ok-first.first c.args.cache.now
    c.read_link.new.cache c.in_ok-first.ensures.asks
    (λ honest p there spelled. c.in_ok-first.ensures.link honest p there spelled
    ∙ ap (λ k. link_at k p) c.class_of-class.ensures.value) map.honest small t at stands in
    let chain = chain_at t (class_of c.args.id) in
    at_error c.from_residual-in_err-holder.result c.in_err-holder.field-0.0 IsOfDevice
    c.from_residual-in_err-holder.ensures.1
    (c.in_err-holder.ensures.there s.honest chain s.begins_now
    (omega (
      arith,
      chain_is_short g.row.D c.args.cache.now t (class_of c.args.id) small stands,
      c.in_ok-first.ensures.asks.map.next,
    ))
    (in_chain g.row.D (pages c.args.cache.now) t c.args.id stands has))

pub returns-in_err-last-clause-faults : goal.returns-in_err-last-clause-faults
returns-in_err-last-clause-faults g c = λ map t at stands has.
    let r = reached g.row.D c.args.directory c.args.id c.in_ok-first.first c.in_ok-holder.holder
    c.in_ok-holder.place c.args.cache.now c.read_link.new.cache c.place_in.new.cache c.place_in.new.cache
    c.in_ok-first.ensures.asks
    (λ honest p there spelled. c.in_ok-first.ensures.link honest p there spelled
    ∙ ap (λ k. link_at k p) c.class_of-class.ensures.value)
    c.in_ok-holder.ensures.asks c.in_ok-holder.ensures.found (no_call_asks c.place_in.new.cache) map t at
    stands in
    at_error c.from_residual-in_err-last.result c.in_err-last.field-0.0 IsOfDevice
    c.from_residual-in_err-last.ensures.1 (c.in_err-last.ensures.there r.honest r.begin.content r.reads)

pub returns-in_err-put_at-clause-changes : goal.returns-in_err-put_at-clause-changes
returns-in_err-put_at-clause-changes g c =
    let asked =
    asks_in_turn c.args.cache.now c.place_in.new.cache c.last_in.new.cache None
    (asks_in_turn c.args.cache.now c.read_link.new.cache c.place_in.new.cache None
    c.in_ok-first.ensures.asks c.in_ok-holder.ensures.asks) c.in_ok-last.ensures.asks in
    changes_and_refuses c.args.cache.now c.last_in.new.cache c.put_at.new.cache c.in_err-put_at.field-0.0
    c.from_residual-in_err-put_at.result c.from_residual-in_err-put_at.ensures.1
    (asks_changes c.args.cache.now c.last_in.new.cache None asked) c.in_err-put_at.ensures.changes

pub returns-in_err-put_at-clause-sound : goal.returns-in_err-put_at-clause-sound
returns-in_err-put_at-clause-sound g c = λ map t at stands.
    let r = reached g.row.D c.args.directory c.args.id c.in_ok-first.first c.in_ok-holder.holder
    c.in_ok-holder.place c.args.cache.now c.read_link.new.cache c.place_in.new.cache c.last_in.new.cache
    c.in_ok-first.ensures.asks
    (λ honest p there spelled. c.in_ok-first.ensures.link honest p there spelled
    ∙ ap (λ k. link_at k p) c.class_of-class.ensures.value)
    c.in_ok-holder.ensures.asks c.in_ok-holder.ensures.found c.in_ok-last.ensures.asks map t at stands in
    c.in_err-put_at.ensures.sound r.map_is r.holder_live

pub returns-in_err-put_at-clause-faults : goal.returns-in_err-put_at-clause-faults
returns-in_err-put_at-clause-faults g c = λ map t at stands has.
    let r = reached g.row.D c.args.directory c.args.id c.in_ok-first.first c.in_ok-holder.holder
    c.in_ok-holder.place c.args.cache.now c.read_link.new.cache c.place_in.new.cache c.last_in.new.cache
    c.in_ok-first.ensures.asks
    (λ honest p there spelled. c.in_ok-first.ensures.link honest p there spelled
    ∙ ap (λ k. link_at k p) c.class_of-class.ensures.value)
    c.in_ok-holder.ensures.asks c.in_ok-holder.ensures.found c.in_ok-last.ensures.asks map t at stands in
    at_error c.from_residual-in_err-put_at.result c.in_err-put_at.field-0.0 IsOfDevice
    c.from_residual-in_err-put_at.ensures.1 (c.in_err-put_at.ensures.faults r.map_is.honest r.holder_live)

pub returns-clause-changes : goal.returns-clause-changes
returns-clause-changes g c =
    let asked =
    asks_in_turn c.args.cache.now c.place_in.new.cache c.last_in.new.cache None
    (asks_in_turn c.args.cache.now c.read_link.new.cache c.place_in.new.cache None
    c.in_ok-first.ensures.asks c.in_ok-holder.ensures.asks) c.in_ok-last.ensures.asks in
    changes_in_turn c.args.cache.now c.put_at.new.cache c.drop_last.new.cache (fault_in c.drop_last.result)
    (changes_in_turn c.args.cache.now c.last_in.new.cache c.put_at.new.cache None
    (asks_changes c.args.cache.now c.last_in.new.cache None asked) c.in_ok-put_at.ensures.changes)
    c.drop_last.ensures.changes

pub returns-clause-sound : goal.returns-clause-sound
returns-clause-sound g c = λ map t at stands.
    let r = reached g.row.D c.args.directory c.args.id c.in_ok-first.first c.in_ok-holder.holder
    c.in_ok-holder.place c.args.cache.now c.read_link.new.cache c.place_in.new.cache c.last_in.new.cache
    c.in_ok-first.ensures.asks
    (λ honest p there spelled. c.in_ok-first.ensures.link honest p there spelled
    ∙ ap (λ k. link_at k p) c.class_of-class.ensures.value)
    c.in_ok-holder.ensures.asks c.in_ok-holder.ensures.found c.in_ok-last.ensures.asks map t at stands in
    let others = c.in_ok-put_at.ensures.others r.map_is.honest r.holder_live in
    let mid = pages c.put_at.new.cache in
    let puts : PutsAt g.row.D (pages c.args.cache.now) mid c.in_ok-holder.holder c.in_ok-holder.place
    c.in_ok-last.last = record {
      others = λ k off. others k off ∙ r.stay k;
      written =
          λ k is within. c.in_ok-put_at.ensures.written r.map_is.honest k
          (ap (bucket_in g.row.D) (r.stay c.in_ok-holder.holder) ∙ is) within;
    } in
    let f = first_now g.row.D (pages c.args.cache.now) mid t c.args.id c.in_ok-first.first
    c.in_ok-holder.holder c.in_ok-holder.place r.begin.content c.in_ok-last.last stands r.link r.found
    r.begin.there puts in
    let sound = c.in_ok-put_at.ensures.sound r.map_is r.holder_live in
    let live = page_of_bucket g.row.D (mid c.in_ok-first.first) f.0 f.1 in
    let links = others c.args.directory r.holder_apart_is ∙ r.links in
    c.drop_last.ensures.sound sound live (is_there (mid c.args.directory) stands.directory links) r.apart

pub returns-clause-removed : goal.returns-clause-removed
returns-clause-removed g c = λ map t at stands has.
    let r = reached g.row.D c.args.directory c.args.id c.in_ok-first.first c.in_ok-holder.holder
    c.in_ok-holder.place c.args.cache.now c.read_link.new.cache c.place_in.new.cache c.last_in.new.cache
    c.in_ok-first.ensures.asks
    (λ honest p there spelled. c.in_ok-first.ensures.link honest p there spelled
    ∙ ap (λ k. link_at k p) c.class_of-class.ensures.value)
    c.in_ok-holder.ensures.asks c.in_ok-holder.ensures.found c.in_ok-last.ensures.asks map t at stands in
    let others = c.in_ok-put_at.ensures.others r.map_is.honest r.holder_live in
    let mid = pages c.put_at.new.cache in
    let puts : PutsAt g.row.D (pages c.args.cache.now) mid c.in_ok-holder.holder c.in_ok-holder.place
    c.in_ok-last.last = record {
      others = λ k off. others k off ∙ r.stay k;
      written =
          λ k is within. c.in_ok-put_at.ensures.written r.map_is.honest k
          (ap (bucket_in g.row.D) (r.stay c.in_ok-holder.holder) ∙ is) within;
    } in
    let f = first_now g.row.D (pages c.args.cache.now) mid t c.args.id c.in_ok-first.first
    c.in_ok-holder.holder c.in_ok-holder.place r.begin.content c.in_ok-last.last stands r.link r.found
    r.begin.there puts in
    let sound = c.in_ok-put_at.ensures.sound r.map_is r.holder_live in
    let live = page_of_bucket g.row.D (mid c.in_ok-first.first) f.0 f.1 in
    let links = others c.args.directory r.holder_apart_is ∙ r.links in
    let now = pages c.drop_last.new.cache in
    let first = c.in_ok-first.first in
    on_ok c.drop_last.result
    (λ shrinks. removes_from g.row.D (pages c.args.cache.now) mid t c.args.id first c.in_ok-holder.holder
    c.in_ok-holder.place r.begin.content c.in_ok-last.last stands r.link r.found r.begin.there puts now
    (c.in_ok-last.ensures.last r.honest r.begin.content some_object r.reads) f.0 f.1
    (subst (λ d. Shrinks g.row.D mid now d (class_of c.args.id) first f.0 stands.directory) (sym at)
    (subst (λ k. Shrinks g.row.D mid now c.args.directory k first f.0 stands.directory)
    c.class_of-class.ensures.value shrinks)))
    (c.drop_last.ensures.less sound r.apart stands.directory links f.0 f.1)

pub returns-clause-faults : goal.returns-clause-faults
returns-clause-faults g c = λ map t at stands has.
    let r = reached g.row.D c.args.directory c.args.id c.in_ok-first.first c.in_ok-holder.holder
    c.in_ok-holder.place c.args.cache.now c.read_link.new.cache c.place_in.new.cache c.last_in.new.cache
    c.in_ok-first.ensures.asks
    (λ honest p there spelled. c.in_ok-first.ensures.link honest p there spelled
    ∙ ap (λ k. link_at k p) c.class_of-class.ensures.value)
    c.in_ok-holder.ensures.asks c.in_ok-holder.ensures.found c.in_ok-last.ensures.asks map t at stands in
    let others = c.in_ok-put_at.ensures.others r.map_is.honest r.holder_live in
    let mid = pages c.put_at.new.cache in
    let puts : PutsAt g.row.D (pages c.args.cache.now) mid c.in_ok-holder.holder c.in_ok-holder.place
    c.in_ok-last.last = record {
      others = λ k off. others k off ∙ r.stay k;
      written =
          λ k is within. c.in_ok-put_at.ensures.written r.map_is.honest k
          (ap (bucket_in g.row.D) (r.stay c.in_ok-holder.holder) ∙ is) within;
    } in
    let f = first_now g.row.D (pages c.args.cache.now) mid t c.args.id c.in_ok-first.first
    c.in_ok-holder.holder c.in_ok-holder.place r.begin.content c.in_ok-last.last stands r.link r.found
    r.begin.there puts in
    let sound = c.in_ok-put_at.ensures.sound r.map_is r.holder_live in
    let live = page_of_bucket g.row.D (mid c.in_ok-first.first) f.0 f.1 in
    let links = others c.args.directory r.holder_apart_is ∙ r.links in
    c.drop_last.ensures.faults sound live (is_there (mid c.args.directory) stands.directory links)
    r.apart (λ two. omega (arith, two, r.begin.low))

pub returns-in_err-last-clause-changes : goal.returns-in_err-last-clause-changes
returns-in_err-last-clause-changes g c =
    asks_and_gives_up c.args.cache.now c.place_in.new.cache c.last_in.new.cache c.in_err-last.field-0.0
    c.from_residual-in_err-last.result c.from_residual-in_err-last.ensures.1
    (asks_in_turn c.args.cache.now c.read_link.new.cache c.place_in.new.cache None c.in_ok-first.ensures.asks
    c.in_ok-holder.ensures.asks) c.in_err-last.ensures.asks

pub returns-clause-tidy : goal.returns-clause-tidy
returns-clause-tidy g c = λ map t at stands.
    let D = g.row.D in
    let old = pages c.args.cache.now in
    let asked = pages c.last_in.new.cache in
    let mid = pages c.put_at.new.cache in
    let now = pages c.drop_last.new.cache in
    let first = c.in_ok-first.first in
    let holder = c.in_ok-holder.holder in
    let place = c.in_ok-holder.place in
    let r = reached D c.args.directory c.args.id first holder place c.args.cache.now c.read_link.new.cache
    c.place_in.new.cache c.last_in.new.cache c.in_ok-first.ensures.asks
    (λ honest p there spelled. c.in_ok-first.ensures.link honest p there spelled
    ∙ ap (λ k. link_at k p) c.class_of-class.ensures.value)
    c.in_ok-holder.ensures.asks c.in_ok-holder.ensures.found c.in_ok-last.ensures.asks map t at stands in
    let others = c.in_ok-put_at.ensures.others r.map_is.honest r.holder_live in
    let puts : PutsAt D old mid holder place c.in_ok-last.last = record {
      others = λ k off. others k off ∙ r.stay k;
      written =
          λ k is within. c.in_ok-put_at.ensures.written r.map_is.honest k
          (ap (bucket_in D) (r.stay holder) ∙ is) within;
    } in
    let f = first_now D old mid t c.args.id first holder place r.begin.content c.in_ok-last.last stands
    r.link r.found r.begin.there puts in
    let links = others c.args.directory r.holder_apart_is ∙ r.links in
    let put = c.in_ok-put_at.ensures.tidy r.map_is.honest r.held.content
    (ap (bucket_in D) (r.stay holder) ∙ r.held.there) r.held.within in
    on_ok c.drop_last.result
    (λ shrinks. keep_in_turn D old mid now
    (keep_in_turn D old asked mid (same_keep D old asked r.stay) put)
    (shrinks_keep D mid now c.args.directory c.class_of-class.result first f.0 stands.directory links
    stands.spelled shrinks))
    (c.drop_last.ensures.less (c.in_ok-put_at.ensures.sound r.map_is r.holder_live) r.apart
    stands.directory links f.0 f.1)

pub returns-in_err-first-clause-damage : goal.returns-in_err-first-clause-damage
returns-in_err-first-clause-damage g c = λ h either.
    at_error c.from_residual.result c.in_err-first.field-0.0
    (λ f. (n : ℕ) → f ≡ fault.Damaged n
    → MeetsInChain g.row.D (given c.args.cache.now) c.args.directory (class_of c.args.id) n)
    c.from_residual.ensures.1
    (λ n damaged. inl
    (damaged_read c.in_err-first.field-0.0 c.args.directory n (c.in_err-first.ensures.damage h)
    damaged))

pub returns-in_err-holder-clause-damage : goal.returns-in_err-holder-clause-damage
returns-in_err-holder-clause-damage g c = λ h either.
    let old = c.args.cache.now in
    let asks = c.in_ok-first.ensures.asks in
    let class = c.class_of-class in
    at_error c.from_residual-in_err-holder.result c.in_err-holder.field-0.0
    (λ f. (n : ℕ) → f ≡ fault.Damaged n
    → MeetsInChain g.row.D (given old) c.args.directory (class_of c.args.id) n)
    c.from_residual-in_err-holder.ensures.1
    (λ n damaged. met_in_chain g.row.D c.args.directory class.result (class_of c.args.id)
    c.in_ok-first.first n old c.read_link.new.cache asks h class.ensures.value
    (c.in_ok-first.ensures.names h)
    (c.in_err-holder.ensures.damage (asks.gate.honest.0 h) n damaged))

pub returns-in_err-last-clause-damage : goal.returns-in_err-last-clause-damage
returns-in_err-last-clause-damage g c = λ h either.
    let old = c.args.cache.now in
    let read = c.read_link.new.cache in
    let first = c.in_ok-first.first in
    let holder = c.in_ok-holder.holder in
    let asks = c.in_ok-first.ensures.asks in
    let class = c.class_of-class in
    let honest = asks.gate.honest.0 h in
    at_error c.from_residual-in_err-last.result c.in_err-last.field-0.0
    (λ f. (n : ℕ) → f ≡ fault.Damaged n
    → MeetsInChain g.row.D (given old) c.args.directory (class_of c.args.id) n)
    c.from_residual-in_err-last.ensures.1
    (λ n damaged. met_in_chain g.row.D c.args.directory class.result (class_of c.args.id) first n old read
    asks h class.ensures.value (c.in_ok-first.ensures.names h)
    (inr (first_met g.row.D read first n holder (c.in_ok-holder.ensures.met honest)
    (damaged_read c.in_err-last.field-0.0 first n
    (c.in_err-last.ensures.damage (c.in_ok-holder.ensures.asks.gate.honest.0 honest)) damaged))))

pub returns-in_err-put_at-clause-damage : goal.returns-in_err-put_at-clause-damage
returns-in_err-put_at-clause-damage g c = λ h either.
    let old = c.args.cache.now in
    let read = c.read_link.new.cache in
    let first = c.in_ok-first.first in
    let holder = c.in_ok-holder.holder in
    let asks = c.in_ok-first.ensures.asks in
    let class = c.class_of-class in
    let honest = asks.gate.honest.0 h in
    let held = c.in_ok-holder.ensures.asks.gate.honest.0 honest in
    let honest_last = c.in_ok-last.ensures.asks.gate.honest.0 held in
    at_error c.from_residual-in_err-put_at.result c.in_err-put_at.field-0.0
    (λ f. (n : ℕ) → f ≡ fault.Damaged n
    → MeetsInChain g.row.D (given old) c.args.directory (class_of c.args.id) n)
    c.from_residual-in_err-put_at.ensures.1
    (λ n damaged. met_in_chain g.row.D c.args.directory class.result (class_of c.args.id) first n old read
    asks h class.ensures.value (c.in_ok-first.ensures.names h)
    (inr (bucket_met g.row.D read first n holder (c.in_ok-holder.ensures.met honest)
    (damaged_read c.in_err-put_at.field-0.0 holder n (c.in_err-put_at.ensures.damage honest_last) damaged))))

pub returns-clause-damage : goal.returns-clause-damage
returns-clause-damage g c = λ h either.
    let D = g.row.D in
    let old = c.args.cache.now in
    let read = c.read_link.new.cache in
    let last = c.last_in.new.cache in
    let done = c.drop_last.new.cache in
    let d = c.args.directory in
    let first = c.in_ok-first.first in
    let holder = c.in_ok-holder.holder in
    let asks = c.in_ok-first.ensures.asks in
    let class = c.class_of-class in
    let names = c.in_ok-first.ensures.names h in
    let honest = asks.gate.honest.0 h in
    let met = c.in_ok-holder.ensures.met honest in
    let later =
    asks_in_turn read c.place_in.new.cache last None c.in_ok-holder.ensures.asks c.in_ok-last.ensures.asks in
    let stay = later.map.pages_stay honest in
    let head = first_names D (given read) first holder met in
    if_err c.drop_last.result
    (λ f. IsOfDevice f ⊎ ((f ≡ fault.Damaged first) ⊎ (f ≡ fault.Damaged d)))
    (λ f. (n : ℕ) → f ≡ fault.Damaged n → MeetsInChain D (given old) d (class_of c.args.id) n)
    (λ f said n damaged. met_in_chain D d class.result (class_of c.args.id) first n old read asks h
    class.ensures.value names
    (one_of_two D read first holder d n f met said damaged))
    (⊎_elim
    (λ (map : IsPageMap old).
    let map_read = asks.map.sound.0 map in
    let map_last = later.map.sound.0 map_read in
    let live_holder = subst IsSome (sym (stay holder)) (named_live D read holder met.0.0 map_read met.0.1) in
    let live_first = subst IsSome (sym (stay first)) (named_live D read first head.0 map_read head.1) in
    let live_d = subst IsSome (sym (stay d ∙ asks.map.pages_stay h d))
    (directory_live D old d class.result first map names) in
    let live_put = c.in_ok-put_at.ensures.live map_last.honest live_holder in
    let others = c.in_ok-put_at.ensures.others map_last.honest live_holder in
    let new = pages c.put_at.new.cache in
    c.drop_last.ensures.damage (c.in_ok-put_at.ensures.sound map_last live_holder)
    (stays_live (pages last) new holder first live_put others live_first)
    (stays_live (pages last) new holder d live_put others live_d))
    (λ (none : touched_of done ≡ false). absurd (not_both (touched_of done)
    (c.drop_last.ensures.changes.touched c.in_ok-put_at.ensures.touched) none))
    either)
