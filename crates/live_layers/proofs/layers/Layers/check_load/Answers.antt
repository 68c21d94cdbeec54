-- Each refusal is the table's, and nothing refuses the objects that pass.
use Rattle.std.proofs.Common.{◌≡◌, ◌∙◌, None, sym, inl, arith}
use Rattle.std.specs.Prelude.{slice_index_or}
use Rattle.id_words.proofs.EntryLemmas.{as_many_listed}
use Rattle.id_words.specs.Objects.{pairs_in}
use Rattle.live_layers.specs.Keeping.{count_in, records_in}
use Rattle.live_layers.proofs.LoadLemmas.{counted_there, may_be_given, not_empty, too_many_given, twice_given}
use Rattle.live_layers.proofs.RefusalLemmas.{given_twice, holds_some, ids_pass, more_than_fit}
use Rattle.live_layers.proofs.TurnLemmas.{as_many_given, ids_listed_as}
use Rattle.live_layers.proofs.layers.Layers.check_load.Goals as goal

pub returns-then-count_at-gt0-clause-allowed : goal.returns-then-count_at-gt0-clause-allowed
returns-then-count_at-gt0-clause-allowed g c = λ t name given sound reaches.
    let many =
    counted_there c.args.self.now t name c.args.place sound reaches.finds c.count_at.result
    c.count_at.ensures in
    inl (not_empty t name c.args.place given g.row.D (pairs_in c.args.entries.now) reaches
    (omega (arith, many, c.if-count_at-gt0.true)))

pub returns-in-Some-clause-allowed : goal.returns-in-Some-clause-allowed
returns-in-Some-clause-allowed g c = λ t name given sound reaches.
    let many =
    counted_there c.args.self.now t name c.args.place sound reaches.finds c.count_at.result
    c.count_at.ensures in
    inl (twice_given t name c.args.place given g.row.D (pairs_in c.args.entries.now) reaches c.in-Some.id
    (omega (arith, many, c.if-count_at-gt0.false)) (sym c.in-Some.is ∙ c.in_ok-id.ensures))

pub returns-then-entries-saturating_sub-clause-allowed : goal.returns-then-entries-saturating_sub-clause-allowed
returns-then-entries-saturating_sub-clause-allowed g c = λ t name given sound reaches.
    let many =
    counted_there c.args.self.now t name c.args.place sound reaches.finds c.count_at.result
    c.count_at.ensures in
    let once : None ≡ c.in_ok-id.field-0 = sym c.in_default.is in
    inl (too_many_given t name c.args.place given g.row.D (pairs_in c.args.entries.now) reaches
    (omega (arith, many, c.if-count_at-gt0.false)) (once ∙ c.in_ok-id.ensures)
    (omega (
      arith,
      as_many_listed c.args.entries.now,
      c.saturating_sub.ensures,
      c.if-entries-saturating_sub.true,
      sound.counted,
      sound.within,
    )))

pub returns-clause-allowed : goal.returns-clause-allowed
returns-clause-allowed g c = λ t name given sound reaches.
    let many =
    counted_there c.args.self.now t name c.args.place sound reaches.finds c.count_at.result
    c.count_at.ensures in
    let once : None ≡ c.in_ok-id.field-0 = sym c.in_default.is in
    may_be_given t name c.args.place given g.row.D (pairs_in c.args.entries.now) reaches
    (omega (arith, many, c.if-count_at-gt0.false)) (once ∙ c.in_ok-id.ensures)
    (omega (
      arith,
      as_many_listed c.args.entries.now,
      c.saturating_sub.ensures,
      c.if-entries-saturating_sub.false,
      sound.counted,
      sound.within,
    ))

pub returns-then-count_at-gt0-clause-in_turn : goal.returns-then-count_at-gt0-clause-in_turn
returns-then-count_at-gt0-clause-in_turn g c = λ given d pairs.
    let held = (slice_index_or (records_in c.args.self.now) c.args.place d).count in
    inl (holds_some held given (count_in c.args.self.now)
    (omega (arith, c.count_at.ensures d, c.if-count_at-gt0.true)))

pub returns-in-Some-clause-in_turn : goal.returns-in-Some-clause-in_turn
returns-in-Some-clause-in_turn g c = λ given d pairs.
    let held = (slice_index_or (records_in c.args.self.now) c.args.place d).count in
    inl (given_twice held given (count_in c.args.self.now)
    (omega (arith, c.count_at.ensures d, c.if-count_at-gt0.false)) c.in-Some.id
    (sym (ids_listed_as c.args.entries.now given pairs) ∙ sym c.in_ok-id.ensures ∙ c.in-Some.is))

pub returns-then-entries-saturating_sub-clause-in_turn : goal.returns-then-entries-saturating_sub-clause-in_turn
returns-then-entries-saturating_sub-clause-in_turn g c = λ given d pairs.
    let held = (slice_index_or (records_in c.args.self.now) c.args.place d).count in
    inl (more_than_fit held given (count_in c.args.self.now)
    (omega (arith, c.count_at.ensures d, c.if-count_at-gt0.false))
    (sym (ids_listed_as c.args.entries.now given pairs) ∙ sym c.in_ok-id.ensures ∙ c.in_default.is)
    (omega (
      arith,
      as_many_given c.args.entries.now given pairs,
      c.saturating_sub.ensures,
      c.if-entries-saturating_sub.true,
    )))

pub returns-clause-in_turn : goal.returns-clause-in_turn
returns-clause-in_turn g c = λ given d pairs.
    let held = (slice_index_or (records_in c.args.self.now) c.args.place d).count in
    ids_pass held given (count_in c.args.self.now)
    (omega (arith, c.count_at.ensures d, c.if-count_at-gt0.false))
    (sym (ids_listed_as c.args.entries.now given pairs) ∙ sym c.in_ok-id.ensures ∙ c.in_default.is)
    (omega (
      arith,
      as_many_given c.args.entries.now given pairs,
      c.saturating_sub.ensures,
      c.if-entries-saturating_sub.false,
    ))
