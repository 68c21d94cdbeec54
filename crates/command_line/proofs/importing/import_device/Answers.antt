-- An import begins with the empty table where a store is made as asked, and else with the table of the image.
use Rattle.std.specs.FinMap.{empty}
use Rattle.std.proofs.Common.{◌∙◌, ◌⊎◌, ap, inl, inr, sym, arith}
use Rattle.std.proofs.lemmas.Bool.{true≢false}
use Rattle.page_file.specs.Opening.{IsRefused}
use Rattle.live_layers.specs.Image.{IsImage}
use Rattle.layer_store.specs.Representation.{device_in}
use Rattle.command_line.proofs.ImportLemmas.{imports_into, unopened}
use Rattle.command_line.proofs.Starts.{has_started, start}
use Rattle.command_line.proofs.importing.import_device.Goals as goal

pub returns-then-not-options-clause-imported : goal.returns-then-not-options-clause-imported
returns-then-not-options-clause-imported g c =
    let m = g.D.BlockDevice in
    let fits = c.args.options.now.fit in
    let device = c.args.device in
    record {
      kept = λ create. absurd (true≢false (sym create ∙ c.if-not-options.true));
      made = λ create. absurd (true≢false (sym create ∙ c.if-not-options.true));
      opened = λ create honest t image. start c.open_store-opened.result _
          (λ v is.
          let begins = rw is at (c.open_store-opened.ensures.image t honest image) in
          let opening = (rw is at c.open_store-opened.ensures.stops) honest in
          let store =
          has_started c.args.options.now.limits.newest v t (rw is at c.open_store-opened.ensures.newest)
          ((rw is at c.open_store-opened.ensures.within) honest) begins in
          inr (imports_into m _ (m.may_leave device) t _ _ device (device_in v) _ store opening
          ((rw is at (c.import_store.ensures.imported t (m.moment (device_in v)))) begins)))
          (λ e is.
          let so = rw is at c.import_store.ensures.refused in
          let stops = (rw is at (c.open_store-opened.ensures.refused_stops fits)) honest in
          let blocks = (rw is at c.open_store-opened.ensures.refused_blocks) honest in
          inl (unopened m (m.may_leave device) device e.1 _ so.0 so.1 stops, ap m.shown so.1 ∙ blocks));
      refused = λ create honest f refuses. start c.open_store-opened.result _
          (λ v is. absurd ((rw is at c.open_store-opened.ensures.opened) honest f refuses))
          (λ e is.
          let so = rw is at c.import_store.ensures.refused in
          let stops = (rw is at (c.open_store-opened.ensures.refused_stops fits)) honest in
          let blocks = (rw is at c.open_store-opened.ensures.refused_blocks) honest in (
            unopened m (m.may_leave device) device e.1 _ so.0 so.1 stops,
            ap m.shown so.1 ∙ blocks,
          ));
    }

pub returns-then-blocks-ne0-clause-imported : goal.returns-then-blocks-ne0-clause-imported
returns-then-blocks-ne0-clause-imported g c = record {
  kept = λ create some. (c.tell_not_empty.ensures.status, c.tell_not_empty.ensures.device);
  made = λ create honest none. absurd (c.if-blocks-ne0.true (c.blocks-2.ensures.is ∙ none));
  opened = λ create. absurd (true≢false (sym c.if-not-options.false ∙ create));
  refused = λ create. absurd (true≢false (sym c.if-not-options.false ∙ create));
}

pub returns-clause-imported : goal.returns-clause-imported
returns-clause-imported g c =
    let m = g.D.BlockDevice in
    let fits = c.args.options.now.fit in
    let device = c.args.device in
    let none = sym c.blocks-2.ensures.is ∙ c.if-blocks-ne0.false in
    record {
      kept = λ create some. absurd (omega (arith, some, none));
      made = λ create honest none. start c.create_store-made.result _
          (λ v is.
          let begins = (rw is at c.create_store-made.ensures.made) honest in
          let making = (rw is at c.create_store-made.ensures.stops) honest in
          let store =
          has_started c.args.options.now.limits.newest v empty (rw is at c.create_store-made.ensures.newest)
          (λ two. (rw is at c.create_store-made.ensures.version) honest) begins in
          inr (imports_into m _ (λ b. IsRefused b ⊎ IsImage b empty) empty _ _ device (device_in v) _ store
          making ((rw is at (c.import_store-2.ensures.imported empty (m.moment (device_in v)))) begins)))
          (λ e is.
          let so = rw is at c.import_store-2.ensures.refused in
          let stops = (rw is at (c.create_store-made.ensures.refused_stops fits)) honest in
          inl (unopened m (λ b. IsRefused b ⊎ IsImage b empty) device e.1 _ so.0 so.1 stops));
      opened = λ create. absurd (true≢false (sym c.if-not-options.false ∙ create));
      refused = λ create. absurd (true≢false (sym c.if-not-options.false ∙ create));
    }
