-- The layers that are opened over the file.
use Rattle.std.proofs.Common.{◌≡◌, ◌∙◌, ℕ, true, false, refl, sym, ap, subst}
use Rattle.std.specs.Prelude.{option_and_then}
use Rattle.catalog_page.specs.Layout.{records_at}
use Rattle.live_layers.specs.Catalog.{is_good_catalog}
use Rattle.live_layers.specs.Keeping.{cache_of, records_in}
use Rattle.live_layers.proofs.KeepLemmas.{kept_catalog}
use Rattle.layer_store.specs.Faults.{IsMemoryOrDevice}
use Rattle.layer_store.proofs.ClosingLemmas.{memory_or_device}
use Rattle.layer_store.proofs.StoreLemmas.{alive_so, not_both, settled_so}
use Rattle.layer_store.proofs.store.start.begin.Goals as goal

pub returns-in-Ok-open-clause-image : goal.returns-in-Ok-open-clause-image
returns-in-Ok-open-clause-image g c = λ t blocks honest lies image.
    let over = c.in-Ok.ensures in
    alive_so (record { layers = c.in-Ok-open.layers; rooms = c.new.result; failed = false }) t refl
    (c.in-Ok-open.ensures.image t blocks (subst g.D.BlockDevice.honest (sym over.device) honest)
    ((over.lies blocks).1 lies) image)

pub returns-in-Ok-open-clause-opened : goal.returns-in-Ok-open-clause-opened
returns-in-Ok-open-clause-opened g c = λ honest none.
    let over = c.in-Ok.ensures in
    let opened = c.in-Ok-open.ensures in
    let records = records_in c.in-Ok-open.layers in
    let spelled = ap (option_and_then records_at) (sym (over.pages 2))
    ∙ opened.catalog (subst g.D.BlockDevice.honest (sym over.device) honest) in
    not_both _ (subst (λ (n : ℕ). is_good_catalog n records ≡ true) over.next opened.good)
    (none records spelled)

pub returns-in-Ok-open-clause-settled : goal.returns-in-Ok-open-clause-settled
returns-in-Ok-open-clause-settled g c =
    let opened = c.in-Ok-open.ensures in
    settled_so (record { layers = c.in-Ok-open.layers; rooms = c.new.result; failed = false })
    (opened.asks.gate.gate ∙ c.in-Ok.ensures.gate ∙ c.requires.shut, opened.written)

pub returns-in-Ok-open-clause-trees : goal.returns-in-Ok-open-clause-trees
returns-in-Ok-open-clause-trees g c = λ blocks honest lies.
    let over = c.in-Ok.ensures in
    c.in-Ok-open.ensures.trees blocks (subst g.D.BlockDevice.honest (sym over.device) honest)
    ((over.lies blocks).1 lies)

pub returns-in-Ok-open-clause-spelled : goal.returns-in-Ok-open-clause-spelled
returns-in-Ok-open-clause-spelled g c = λ honest.
    let over = c.in-Ok.ensures in
    let opened = c.in-Ok-open.ensures in
    let inside = subst g.D.BlockDevice.honest (sym over.device) honest in
    kept_catalog _ (cache_of c.in-Ok-open.layers) (records_in c.in-Ok-open.layers) inside opened.asks.map
    (opened.catalog inside)

pub returns-in-Err-open-clause-not_refused : goal.returns-in-Err-open-clause-not_refused
returns-in-Err-open-clause-not_refused g c = λ t blocks honest lies image.
    let over = c.in-Ok.ensures in
    subst IsMemoryOrDevice (sym c.as_refusal-in-Err-open.ensures)
    (memory_or_device _
    (c.in-Err-open.ensures.not_refused t blocks (subst g.D.BlockDevice.honest (sym over.device) honest)
    ((over.lies blocks).1 lies) image))

pub returns-in-Ok-open-clause-version : goal.returns-in-Ok-open-clause-version
returns-in-Ok-open-clause-version g c = λ honest.
    let over = c.in-Ok.ensures in
    c.in-Ok-open.ensures.asks.map.version (subst g.D.BlockDevice.honest (sym over.device) honest)
    ∙ over.version
