-- The names of the table are those of the records.
use Rattle.std.proofs.Common.{◌≡◌, ◌<◌, ◌≤◌, ℕ, List, length, get_or, map, subst}
use Rattle.std.specs.Prelude.{Result, Ok, Err, IfOk, IfErr, None, Some}
use Rattle.std.specs.Cmp.Lexicographic.{slice_cmp}
use Rattle.std.specs.Ordering.{nat_cmp}
use Rattle.std.specs.declared.cmp.Ordering.TheVariants.{Less, Equal, Greater}
use Rattle.catalog_page.specs.Layout.{Record, record_of}
use Rattle.catalog_page.specs.declared.layer_record.LayerRecord.{LayerRecord}
use Rattle.page_cache.specs.Cache.{next_of, pages}
use Rattle.live_layers.specs.Refusals.{record_named}
use Rattle.live_layers.proofs.FindLemmas.{belongs_there, found_here}
use Rattle.live_layers.proofs.RefusalLemmas.{recorded_at, unrecorded_at}
use Rattle.live_layers.proofs.layers.Layers.find.Goals as goal

-- what an answer that is found says, and one that is not
both_ok : {E : Type 0} {P Q R : ℕ → Type 0} (r : Result ℕ E) → IfOk r P → IfOk r Q
    → ((x : ℕ) → P x → Q x → R x) → IfOk r R
both_ok (Err e) p q f = tt
both_ok (Ok x) p q f = f x p q

all_ok : {E : Type 0} {P Q R S : ℕ → Type 0} (r : Result ℕ E) → IfOk r P → IfOk r Q → IfOk r R
    → ((x : ℕ) → P x → Q x → R x → S x) → IfOk r S
all_ok (Err e) p q s f = tt
all_ok (Ok x) p q s f = f x p q s

all_err : {T : Type 0} {P Q R S : ℕ → Type 0} (r : Result T ℕ) → IfErr r P → IfErr r Q → IfErr r R
    → ((x : ℕ) → P x → Q x → R x → S x) → IfErr r S
all_err (Ok v) p q s f = tt
all_err (Err x) p q s f = f x p q s

every_ok : {E D : Type 0} (P : D → ℕ → Type 0) (r : Result ℕ E) → ((d : D) → IfOk r (P d))
    → IfOk r (λ x. (d : D) → P d x)
every_ok P (Err e) h = tt
every_ok P (Ok x) h = h

every_err : {T D : Type 0} (P : D → ℕ → Type 0) (r : Result T ℕ) → ((d : D) → IfErr r (P d))
    → IfErr r (λ x. (d : D) → P d x)
every_err P (Ok v) h = tt
every_err P (Err x) h = h

pub returns-clause-found : goal.returns-clause-found
returns-clause-found g c = λ t sound.
    let cache = c.args.self.now.cache in
    let items = c.args.self.now.records.items in
    let name = c.args.name.now in
    let e = c.search.ensures in
    let given = c.deref.result.now in
    let same : given ≡ items = c.deref.ensures.0 in
    both_ok c.search.result e.within
    (every_ok (λ (d : LayerRecord) (i : ℕ). slice_cmp nat_cmp name (get_or given i d).name.items ≡ Equal)
    c.search.result e.found)
    (λ i lt tie. found_here (pages cache) (next_of cache) items t sound.holds name i
    (subst (λ (xs : List LayerRecord). i < length xs) same lt)
    (subst (λ (xs : List LayerRecord). (d : LayerRecord)
    → slice_cmp nat_cmp name (get_or xs i d).name.items ≡ Equal) same tie))

pub returns-clause-belongs : goal.returns-clause-belongs
returns-clause-belongs g c = λ t sound.
    let cache = c.args.self.now.cache in
    let items = c.args.self.now.records.items in
    let name = c.args.name.now in
    let e = c.search.ensures in
    let given = c.deref.result.now in
    let same : given ≡ items = c.deref.ensures.0 in
    all_err c.search.result e.end e.behind
    (every_err
    (λ (d : LayerRecord) (i : ℕ). i < length given
    → slice_cmp nat_cmp name (get_or given i d).name.items ≡ Less) c.search.result e.before)
    (λ i le above below. belongs_there (pages cache) (next_of cache) items t sound.holds name i
    (subst (λ (xs : List LayerRecord). i ≤ length xs) same le)
    (subst (λ (xs : List LayerRecord). (k : ℕ) (d : LayerRecord) → k < i
    → slice_cmp nat_cmp name (get_or xs k d).name.items ≡ Greater) same above)
    (subst (λ (xs : List LayerRecord). (d : LayerRecord) → i < length xs
    → slice_cmp nat_cmp name (get_or xs i d).name.items ≡ Less) same below))

pub returns-clause-recorded : goal.returns-clause-recorded
returns-clause-recorded g c =
    let name = c.args.name.now in
    let e = c.search.ensures in
    let given = c.deref.result.now in
    all_ok c.search.result e.within e.ahead
    (every_ok (λ (d : LayerRecord) (i : ℕ). slice_cmp nat_cmp name (get_or given i d).name.items ≡ Equal)
    c.search.result e.found)
    (λ i lt ahead tie.
    subst (λ (xs : List LayerRecord). (d : Record)
    → record_named (map record_of xs) name ≡ Some (get_or (map record_of xs) i d)) c.deref.ensures.0
    (recorded_at name given i lt ahead tie))

pub returns-clause-unrecorded : goal.returns-clause-unrecorded
returns-clause-unrecorded g c =
    let name = c.args.name.now in
    let e = c.search.ensures in
    let given = c.deref.result.now in
    all_err c.search.result e.end e.behind
    (every_err
    (λ (d : LayerRecord) (i : ℕ). i < length given
    → slice_cmp nat_cmp name (get_or given i d).name.items ≡ Less) c.search.result e.before)
    (λ i le above below.
    subst (λ (xs : List LayerRecord). record_named (map record_of xs) name ≡ None) c.deref.ensures.0
    (unrecorded_at name given i le above below))
