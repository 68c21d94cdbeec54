-- The goals of `free_all` that are proved by hand: the pages stand for the table when its directory is read.
use Rattle.std.proofs.Common.{◌≡◌, ◌∙◌, ◌<◌, ◌⊎◌, ℕ, IsSome, false, ap, arith, inl, inr, refl, subst, sym}
use Rattle.std.proofs.Common.{⊎_elim}
use Rattle.page_file.specs.declared.fault.Fault.TheVariants as fault
use Rattle.page_cache.specs.Cache.{IsPageMap, given, pages, touched_of}
use Rattle.node_page.proofs.DamageLemmas.{damaged_read}
use Rattle.node_page.proofs.NodeLemmas.{at_error, on_ok}
use Rattle.node_page.proofs.PartLemmas.{moves_from}
use Rattle.node_page.specs.Parts.{no_page}
use Rattle.id_chains.specs.Table.{link_at, part_of}
use Rattle.id_chains.specs.Walks.{MeetsAlong, MeetsInTable}
use Rattle.id_chains.proofs.BucketLemmas.{if_err, is_there}
use Rattle.id_chains.proofs.FreeLemmas.{frees_moves, stands_same}
use Rattle.id_chains.proofs.MeetLemmas.{directory_live, meets_so, same_names}
use Rattle.id_chains.proofs.freeing.free_all.Goals as goal

pub returns-clause-sound : goal.returns-clause-sound
returns-clause-sound g c = λ map t at stands.
    let m = pages c.args.cache.now in
    let asks = c.in_ok-bytes.ensures.asks in
    let there = ap m (sym at) ∙ stands.there in
    let bytes =
    c.in_ok-bytes.ensures.bytes map.honest (is_there (m c.args.directory) stands.directory there) in
    let same = asks.map.pages_stay map.honest in
    c.free_pages.ensures.sound (asks.map.sound.0 map) t at
    (stands_same g.row.D m (pages c.copy_page.new.cache) t same stands) (same c.args.directory ∙ bytes)

pub returns-clause-freed : goal.returns-clause-freed
returns-clause-freed g c = λ map t at stands.
    let m = pages c.args.cache.now in
    let mid = pages c.copy_page.new.cache in
    let now = pages c.free_pages.new.cache in
    let asks = c.in_ok-bytes.ensures.asks in
    let there = ap m (sym at) ∙ stands.there in
    let bytes =
    c.in_ok-bytes.ensures.bytes map.honest (is_there (m c.args.directory) stands.directory there) in
    let same = asks.map.pages_stay map.honest in
    on_ok c.free_pages.result
    (λ frees. moves_from m mid now (part_of t) no_page same (frees_moves mid now (part_of t) frees))
    (c.free_pages.ensures.freed (asks.map.sound.0 map) t at (stands_same g.row.D m mid t same stands)
    (same c.args.directory ∙ bytes))

pub returns-clause-faults : goal.returns-clause-faults
returns-clause-faults g c = λ map t at stands.
    let m = pages c.args.cache.now in
    let asks = c.in_ok-bytes.ensures.asks in
    let there = ap m (sym at) ∙ stands.there in
    let bytes =
    c.in_ok-bytes.ensures.bytes map.honest (is_there (m c.args.directory) stands.directory there) in
    let same = asks.map.pages_stay map.honest in
    c.free_pages.ensures.faults (asks.map.sound.0 map) t at
    (stands_same g.row.D m (pages c.copy_page.new.cache) t same stands) (same c.args.directory ∙ bytes)

pub returns-in_err-bytes-clause-damage : goal.returns-in_err-bytes-clause-damage
returns-in_err-bytes-clause-damage g c = λ h either.
    let d = c.args.directory in
    at_error c.from_residual.result c.in_err-bytes.field-0.0
    (λ f. (n : ℕ) → f ≡ fault.Damaged n → MeetsInTable g.row.D (given c.args.cache.now) d n)
    c.from_residual.ensures.1
    (λ n damaged.
    let is = damaged_read c.in_err-bytes.field-0.0 d n (c.in_err-bytes.ensures.damage h) damaged in
    (0, omega arith, inl is))

pub returns-then-not-is_directory-clause-damage : goal.returns-then-not-is_directory-clause-damage
returns-then-not-is_directory-clause-damage g c =
    λ h either n (damaged : fault.Damaged c.args.directory ≡ fault.Damaged n).
    let is : n ≡ c.args.directory = cc in
    (0, omega arith, inl is)

pub returns-clause-damage : goal.returns-clause-damage
returns-clause-damage g c = λ h either.
    let D = g.row.D in
    let old = c.args.cache.now in
    let mid = c.copy_page.new.cache in
    let d = c.args.directory in
    let bytes = c.in_ok-bytes.bytes in
    let asks = c.in_ok-bytes.ensures.asks in
    let there = c.in_ok-bytes.ensures.given_bytes h in
    let spelled = c.is_directory.ensures.0 c.if-not-is_directory.false in
    let same = same_names D (given old) (given mid) (λ k. asks.map.given_stay h k) in
    let named : ℕ → ℕ → Type 0 = λ n class. MeetsAlong D (given mid) (link_at class bytes) n in
    if_err c.free_pages.result
    (λ f. (n : ℕ) → f ≡ fault.Damaged n → (n ≡ d) ⊎ ((class : ℕ) × (class < 1000) × named n class))
    (λ f. (n : ℕ) → f ≡ fault.Damaged n → MeetsInTable D (given old) d n)
    (λ f said n damaged. ⊎_elim
    (λ (is : n ≡ d). (0, omega arith, inl is))
    (λ (along : (class : ℕ) × (class < 1000) × named n class). (
      along.0,
      along.1,
      inr (
        link_at along.0 bytes,
        (bytes, there, spelled, refl),
        meets_so D (given old) (given mid) (link_at along.0 bytes) n same along.2,
      ),
    ))
    (said n damaged))
    (c.free_pages.ensures.damage (asks.gate.honest.0 h)
    (⊎_elim
    (λ (map : IsPageMap old). inl (
      asks.map.sound.0 map,
      subst IsSome (sym (asks.map.pages_stay h d))
          (directory_live D old d 0 (link_at 0 bytes) map (bytes, there, spelled, refl)),
    ))
    (λ (none : touched_of c.free_pages.new.cache ≡ false). inr none)
    either))
