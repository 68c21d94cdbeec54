-- The goals of `update` that are proved by hand: where the object is, and what its chain has then.
use Rattle.std.proofs.Common.{◌≡◌, ◌∙◌, ◌<◌, ◌⊎◌, ℕ, List, None, Some, ap, arith, get_or, inl, inr}
use Rattle.bucket_page.specs.Layout.{BucketContent, Entry, replaced}
use Rattle.page_file.specs.Fault.{IsOfDevice}
use Rattle.page_file.specs.declared.fault.Fault.TheVariants as fault
use Rattle.page_cache.specs.Cache.{given, pages}
use Rattle.page_cache.specs.Calls.{asks_changes, asks_in_turn, changes_in_turn, fault_in, no_call_asks}
use Rattle.page_cache.specs.Laws.{the_map_is_kept_in_turn}
use Rattle.node_page.proofs.DamageLemmas.{damaged_read}
use Rattle.node_page.proofs.NodeLemmas.{at_error, on_ok}
use Rattle.id_words.specs.Objects.{with_box}
use Rattle.id_chains.specs.Pages.{moved}
use Rattle.id_chains.specs.Table.{bucket_in, chain_at, class_of, link_at}
use Rattle.id_chains.specs.Walks.{MeetsInChain}
use Rattle.id_chains.proofs.AddLemmas.{in_chain}
use Rattle.id_chains.proofs.GetLemmas.{chain_is_short}
use Rattle.id_chains.proofs.MeetLemmas.{bucket_met, met_in_chain}
use Rattle.id_chains.proofs.ReachLemmas.{reached}
use Rattle.id_words.proofs.Results.{on_err}
use Rattle.id_chains.proofs.StartLemmas.{starts}
use Rattle.id_chains.proofs.TidyLemmas.{keep_in_turn, same_keep}
use Rattle.id_chains.proofs.BucketLemmas.{if_err, some_object}
use Rattle.id_chains.proofs.PlaceLemmas.{holder_entries}
use Rattle.id_chains.proofs.UpdateLemmas.{kept_there, sets_box}
use Rattle.id_chains.proofs.updating.update.Goals as goal

pub returns-in_err-holder-clause-faults : goal.returns-in_err-holder-clause-faults
returns-in_err-holder-clause-faults g c = λ map t at stands has.
    let small : class_of c.args.id < 1000 = omega arith in
    let s = starts g.row.D c.args.directory (class_of c.args.id) c.in_ok-first.first c.args.cache.now
    c.read_link.new.cache c.in_ok-first.ensures.asks
    (λ honest p there spelled. c.in_ok-first.ensures.link honest p there spelled
    ∙ ap (λ k. link_at k p) c.class_of-class.ensures.value) map.honest small t at stands in
    let chain = chain_at t (class_of c.args.id) in
    at_error c.from_residual-in_err-holder.result c.in_err-holder.field-0.0 IsOfDevice
    c.from_residual-in_err-holder.ensures.1
    (c.in_err-holder.ensures.there s.honest chain s.begins_now
    (omega (
      arith,
      chain_is_short g.row.D c.args.cache.now t (class_of c.args.id) small stands,
      c.in_ok-first.ensures.asks.map.next,
    ))
    (in_chain g.row.D (pages c.args.cache.now) t c.args.id stands has))

pub returns-clause-changes : goal.returns-clause-changes
returns-clause-changes g c =
    changes_in_turn c.args.cache.now c.place_in.new.cache c.move_at.new.cache (fault_in c.move_at.result)
    (asks_changes c.args.cache.now c.place_in.new.cache None
    (asks_in_turn c.args.cache.now c.read_link.new.cache c.place_in.new.cache None
    c.in_ok-first.ensures.asks c.in_ok-holder.ensures.asks)) c.move_at.ensures.changes

pub returns-clause-refused : goal.returns-clause-refused
returns-clause-refused g c =
    let asked =
    asks_in_turn c.args.cache.now c.read_link.new.cache c.place_in.new.cache None
    c.in_ok-first.ensures.asks c.in_ok-holder.ensures.asks in
    on_err c.move_at.result
    (the_map_is_kept_in_turn c.args.cache.now c.place_in.new.cache c.move_at.new.cache
    asked.gate.honest.0 asked.map) c.move_at.ensures.refused

pub returns-clause-sound : goal.returns-clause-sound
returns-clause-sound g c = λ map t at stands.
    let r = reached g.row.D c.args.directory c.args.id c.in_ok-first.first c.in_ok-holder.holder
    c.in_ok-holder.place c.args.cache.now c.read_link.new.cache c.place_in.new.cache c.place_in.new.cache
    c.in_ok-first.ensures.asks
    (λ honest p there spelled. c.in_ok-first.ensures.link honest p there spelled
    ∙ ap (λ k. link_at k p) c.class_of-class.ensures.value)
    c.in_ok-holder.ensures.asks c.in_ok-holder.ensures.found (no_call_asks c.place_in.new.cache) map t at
    stands in
    c.move_at.ensures.sound r.map_is r.holder_live

pub returns-clause-updated : goal.returns-clause-updated
returns-clause-updated g c = λ map t at stands kept has.
    let r = reached g.row.D c.args.directory c.args.id c.in_ok-first.first c.in_ok-holder.holder
    c.in_ok-holder.place c.args.cache.now c.read_link.new.cache c.place_in.new.cache c.place_in.new.cache
    c.in_ok-first.ensures.asks
    (λ honest p there spelled. c.in_ok-first.ensures.link honest p there spelled
    ∙ ap (λ k. link_at k p) c.class_of-class.ensures.value)
    c.in_ok-holder.ensures.asks c.in_ok-holder.ensures.found (no_call_asks c.place_in.new.cache) map t at
    stands in
    let others = c.move_at.ensures.others r.map_is.honest r.holder_live in
    let place = c.in_ok-holder.place in
    let holder = c.in_ok-holder.holder in
    let old = pages c.args.cache.now in
    let box = c.args.bounds.now in
    let small : class_of c.args.id < 1000 = omega arith in
    on_ok c.move_at.result
    (λ written. sets_box g.row.D old t c.args.id holder place stands r.found (pages c.move_at.new.cache)
    (with_box kept box) (record {
      others = λ k off. others k off ∙ r.stay k;
      written = λ k is within.
          let same : r.held.content ≡ k = cc (is, r.held.there) in
          let object : get_or k.entries place some_object ≡ (c.args.id, kept)
          = ap (λ (es : List Entry). get_or es place some_object)
          (holder_entries g.row.D old c.args.id (chain_at t (class_of c.args.id))
          (link_at (class_of c.args.id) stands.directory) holder place
          (stands.chains (class_of c.args.id) small) r.found k is)
          ∙ kept_there g.row.D old t c.args.id holder place stands r.found kept has in
          written ∙ ap
          (λ (k : BucketContent). Some
          (replaced k place (moved (get_or k.entries place some_object) box))) same
          ∙ ap (λ (o : Entry). Some (replaced k place (moved o box))) object;
    }))
    (c.move_at.ensures.written r.map_is.honest r.held.content some_object
    (ap (bucket_in g.row.D) (r.stay holder) ∙ r.held.there) r.held.within)

pub returns-clause-faults : goal.returns-clause-faults
returns-clause-faults g c = λ map t at stands has.
    let r = reached g.row.D c.args.directory c.args.id c.in_ok-first.first c.in_ok-holder.holder
    c.in_ok-holder.place c.args.cache.now c.read_link.new.cache c.place_in.new.cache c.place_in.new.cache
    c.in_ok-first.ensures.asks
    (λ honest p there spelled. c.in_ok-first.ensures.link honest p there spelled
    ∙ ap (λ k. link_at k p) c.class_of-class.ensures.value)
    c.in_ok-holder.ensures.asks c.in_ok-holder.ensures.found (no_call_asks c.place_in.new.cache) map t at
    stands in
    c.move_at.ensures.faults r.map_is.honest r.holder_live

pub returns-clause-tidy : goal.returns-clause-tidy
returns-clause-tidy g c = λ map t at stands.
    let D = g.row.D in
    let old = pages c.args.cache.now in
    let mid = pages c.place_in.new.cache in
    let holder = c.in_ok-holder.holder in
    let r = reached D c.args.directory c.args.id c.in_ok-first.first holder c.in_ok-holder.place
    c.args.cache.now c.read_link.new.cache c.place_in.new.cache c.place_in.new.cache
    c.in_ok-first.ensures.asks
    (λ honest p there spelled. c.in_ok-first.ensures.link honest p there spelled
    ∙ ap (λ k. link_at k p) c.class_of-class.ensures.value)
    c.in_ok-holder.ensures.asks c.in_ok-holder.ensures.found (no_call_asks c.place_in.new.cache) map t at
    stands in
    on_ok c.move_at.result
    (keep_in_turn D old mid (pages c.move_at.new.cache) (same_keep D old mid r.stay))
    (c.move_at.ensures.tidy r.map_is.honest r.held.content
    (ap (bucket_in D) (r.stay holder) ∙ r.held.there) r.held.within)

pub returns-in_err-first-clause-damage : goal.returns-in_err-first-clause-damage
returns-in_err-first-clause-damage g c = λ h.
    at_error c.from_residual.result c.in_err-first.field-0.0
    (λ f. (n : ℕ) → f ≡ fault.Damaged n
    → MeetsInChain g.row.D (given c.args.cache.now) c.args.directory (class_of c.args.id) n)
    c.from_residual.ensures.1
    (λ n damaged. inl
    (damaged_read c.in_err-first.field-0.0 c.args.directory n (c.in_err-first.ensures.damage h) damaged))

pub returns-in_err-holder-clause-damage : goal.returns-in_err-holder-clause-damage
returns-in_err-holder-clause-damage g c = λ h.
    let old = c.args.cache.now in
    let asks = c.in_ok-first.ensures.asks in
    let class = c.class_of-class in
    at_error c.from_residual-in_err-holder.result c.in_err-holder.field-0.0
    (λ f. (n : ℕ) → f ≡ fault.Damaged n
    → MeetsInChain g.row.D (given old) c.args.directory (class_of c.args.id) n)
    c.from_residual-in_err-holder.ensures.1
    (λ n damaged. met_in_chain g.row.D c.args.directory class.result (class_of c.args.id)
    c.in_ok-first.first n old c.read_link.new.cache asks h class.ensures.value
    (c.in_ok-first.ensures.names h)
    (c.in_err-holder.ensures.damage (asks.gate.honest.0 h) n damaged))

pub returns-clause-damage : goal.returns-clause-damage
returns-clause-damage g c = λ h.
    let old = c.args.cache.now in
    let read = c.read_link.new.cache in
    let holder = c.in_ok-holder.holder in
    let first = c.in_ok-first.first in
    let asks = c.in_ok-first.ensures.asks in
    let class = c.class_of-class in
    let honest = asks.gate.honest.0 h in
    if_err c.move_at.result (λ f. IsOfDevice f ⊎ (f ≡ fault.Damaged holder))
    (λ f. (n : ℕ) → f ≡ fault.Damaged n
    → MeetsInChain g.row.D (given old) c.args.directory (class_of c.args.id) n)
    (λ f either n damaged. met_in_chain g.row.D c.args.directory class.result (class_of c.args.id) first n old
    read asks h class.ensures.value (c.in_ok-first.ensures.names h)
    (inr (bucket_met g.row.D read first n holder (c.in_ok-holder.ensures.met honest)
    (damaged_read f holder n either damaged))))
    (c.move_at.ensures.damage (c.in_ok-holder.ensures.asks.gate.honest.0 honest))
