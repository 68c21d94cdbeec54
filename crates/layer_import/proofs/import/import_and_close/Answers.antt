-- An import that was given up, that was closed, and whose closing was refused.
use Rattle.std.proofs.Common.{ap, inl, inr, refl, subst, sym}
use Rattle.layer_store.specs.Faults.{IsMemoryOrDevice}
use Rattle.layer_store.specs.Representation.{device_in}
use Rattle.layer_import.specs.declared.import.Unimported.{Unimported}
use Rattle.layer_import.proofs.EndLemmas.{ends_closing, given_up, has_put}
use Rattle.layer_import.proofs.import.import_and_close.Goals as goal

pub returns-in-Err-clause-imported : goal.returns-in-Err-clause-imported
returns-in-Err-clause-imported g c = λ s t moment represents alive closed.
    let import = c.args.import in
    given_up c.args.store c.put_all.new.store moment t _ _ c.abandon.result
    (has_put (λ store honest b left. g.met.D.BlockDevice.only_now (device_in store) b honest left)
    c.args.store c.put_all.new.store import.layer.now import.dims import.fanout import.objects.items _
    c.in-Err.ensures
    s t moment represents alive closed)
    c.abandon.ensures

pub returns-in-Ok-clause-imported : goal.returns-in-Ok-clause-imported
returns-in-Ok-clause-imported g c = λ s t moment represents alive closed.
    let import = c.args.import in
    ends_closing c.args.store c.put_all.new.store moment t _ _ _ c.in-Ok.device
    (has_put (λ store honest b left. g.met.D.BlockDevice.only_now (device_in store) b honest left)
    c.args.store c.put_all.new.store import.layer.now import.dims import.fanout import.objects.items _
    c.in_default.ensures s t moment represents alive closed)
    refl c.in-Ok.ensures.stops (λ well u state. (
      c.in-Ok.ensures.closed u state,
      c.in-Ok.ensures.durable
          u state,
    ))

pub returns-in-Err-close-clause-imported : goal.returns-in-Err-close-clause-imported
returns-in-Err-close-clause-imported g c = λ s t moment represents alive closed.
    let import = c.args.import in
    ends_closing c.args.store c.put_all.new.store moment t _ _ _ c.in-Err-close.device
    (has_put (λ store honest b left. g.met.D.BlockDevice.only_now (device_in store) b honest left)
    c.args.store c.put_all.new.store import.layer.now import.dims import.fanout import.objects.items _
    c.in_default.ensures s t moment represents alive closed)
    refl c.in-Err-close.ensures.refused_stops (λ well. absurd (cc))

-- ---- why the objects were not put in

pub returns-in-Err-clause-why : goal.returns-in-Err-clause-why
returns-in-Err-clause-why g c = let puts = c.in-Err.ensures in record {
  requests = puts.requests;
  answers = puts.answers;
  next = c.put_all.new.store;
  calls = puts.so;
  refused = inl puts.refused;
}

pub returns-in-Err-close-clause-why : goal.returns-in-Err-close-clause-why
returns-in-Err-close-clause-why g c = let puts = c.in_default.ensures in record {
  requests = puts.requests;
  answers = puts.answers;
  next = c.put_all.new.store;
  calls = puts.so;
  refused = inr (
    puts.all refl,
    ap (λ (why : Unimported). why.object) c.from.ensures,
    λ t state. subst (λ (why : Unimported). IsMemoryOrDevice why.refusal) (sym c.from.ensures)
        (c.in-Err-close.ensures.refused t state),
  );
}
