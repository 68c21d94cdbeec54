-- All objects of a layer, and the lines of layers in a dump.
use Rattle.std.proofs.Common.{◌≡◌, ◌∙◌, ℕ, ◌+◌, ◌<◌, ◌≤ℤ◌, pos, negsuc, Bool, true, cond, List, [], ◌∷◌, ◌++◌}
use Rattle.std.proofs.Common.{All, append-nil, append_assoc, get_or, length, map, replicate, take, refl, sym}
use Rattle.std.proofs.Common.{ap, subst, arith}
use Rattle.std.specs.Int.{w32}
use Rattle.std.specs.Prelude.{◌&&◌, FitsSigned, None, filter, flat_map}
use Rattle.std.specs.FinMap.{entries}
use Rattle.std.proofs.lemmas.Grind.{flat_map-append}
use Rattle.std.proofs.lemmas.Int.{ints}
use Rattle.std.proofs.lemmas.List.{get_or-replicate, map-append, take_more}
use Rattle.std.proofs.lemmas.List.Elements.{All-append, All-cons, All-head, All-nil, All-tail}
use Rattle.std.proofs.lemmas.List.Sorted.{All-permutation}
use Rattle.box_math.specs.Bounds.{Bounds, IsBox, meets_test}
use Rattle.box_math.specs.Objects.{Object, bounds_of, has_tag}
use Rattle.box_math.proofs.TestLaws.{meets_test_true}
use Rattle.catalog_page.specs.Layout.{Record, record_of}
use Rattle.catalog_page.specs.declared.layer_record.LayerRecord.{LayerRecord}
use Rattle.layer_pages.specs.Layers.{IsLayerAt, LayerPages, Objects}
use Rattle.node_page.specs.Standing.{PageMap}
use Rattle.plain_table.specs.Answers.{line_of_row}
use Rattle.plain_table.specs.Listings.{DumpLine, dump_lines}
use Rattle.plain_table.specs.Listings.DumpLine.{CreateLine, InsertLine}
use Rattle.plain_table.specs.declared.rows.DumpRow.{DumpRow}
use Rattle.tree_node.specs.Boxes.{RowHasBoxes}
use Rattle.tree_node.specs.Trees.{Row, child, end, more, object, objects_in}
use Rattle.tree_node.specs.declared.node.Root.{Root}
use Rattle.live_layers.specs.Layers.{LayerStands, Reading, entry_of}
use Rattle.live_layers.specs.Listing.{lines_of, lines_of_layers}
use Rattle.live_layers.proofs.FindLemmas.{no_reading}

-- ---- the window of all points

-- the box of all points
abbrev pub everywhere : ℕ → Bounds
everywhere dims = record { low = replicate dims (negsuc 2147483647); high = replicate dims (pos 2147483647) }

-- each box meets it
meets_everywhere : (dims : ℕ) (b : Bounds) → IsBox dims b → meets_test dims b (everywhere dims) ≡ true
meets_everywhere dims b box =
    (meets_test_true dims b (everywhere dims)).1 (λ axis lt.
    let span = box.spans axis lt in (
      subst (λ z. get_or b.low axis (pos 0) ≤ℤ z)
          (sym (get_or-replicate dims axis (pos 2147483647) (pos 0) lt)) (not_above _ span.low_fits),
      subst (λ z. z ≤ℤ get_or b.high axis (pos 0))
          (sym (get_or-replicate dims axis (negsuc 2147483647) (pos 0) lt)) (not_below _ span.high_fits),
    ))
  where
    not_above : (z : _) → FitsSigned w32 z → z ≤ℤ pos 2147483647
    not_above (pos n) fits = omega (arith, ints, fits.sfits)
    not_above (negsuc n) fits = omega (arith, ints, fits.sfits)

    not_below : (z : _) → FitsSigned w32 z → negsuc 2147483647 ≤ℤ z
    not_below (pos n) fits = omega (arith, ints, fits.sfits)
    not_below (negsuc n) fits = omega (arith, ints, fits.sfits)

-- the boxes of a tree are those of its objects, among others
abbrev HasBox : ℕ → ℕ × Object → Type 0
HasBox dims o = IsBox dims (bounds_of o.1)

boxes_in : (dims : ℕ) (row : Row) → RowHasBoxes dims row → All (HasBox dims) (objects_in row)
boxes_in dims end boxes = All-nil (HasBox dims)
boxes_in dims (more (object o id) rest) boxes =
    All-cons (HasBox dims) (id, o) (objects_in rest) boxes.0 (boxes_in dims rest boxes.1)
boxes_in dims (more (child bounds page below) rest) boxes =
    All-append (HasBox dims) (objects_in below) (objects_in rest) (boxes_in dims below boxes.1)
    (boxes_in dims rest boxes.2)

all_meet : (dims : ℕ) (objects : List (ℕ × Object)) → All (HasBox dims) objects
    → filter
    (λ (o : ℕ × Object). meets_test dims (bounds_of o.1) (everywhere dims) && has_tag None o.1)
    objects ≡ objects
all_meet dims [] boxes = refl
all_meet dims (o ∷ os) boxes =
    let rest =
    filter (λ (x : ℕ × Object). meets_test dims (bounds_of x.1) (everywhere dims)
    && has_tag None x.1) os in
    ap (λ (b : Bool). cond (b && true) (o ∷ rest) rest)
    (meets_everywhere dims (bounds_of o.1) (All-head (HasBox dims) o os boxes))
    ∙ ap (λ (xs : List (ℕ × Object)). o ∷ xs) (all_meet dims os (All-tail (HasBox dims) o os boxes))

-- so all objects of a layer meet it
pub all_objects_meet : (dims most : ℕ) (pages : PageMap) (root : Root) (ids_root : ℕ) (l : LayerPages)
    (objects : Objects) → IsLayerAt dims most pages root ids_root l objects
    → filter
    (λ (o : ℕ × Object). meets_test dims (bounds_of o.1) (everywhere dims) && has_tag None o.1)
    (entries objects) ≡ entries objects
all_objects_meet dims most pages root ids_root l objects at =
    all_meet dims (entries objects)
    (All-permutation (HasBox dims) (objects_in l.tree.row) (entries objects) at.leaves
    (boxes_in dims l.tree.row at.boxes))

-- ---- the lines of a layer

-- the line that makes it, and then those of its objects
pub layer_dumped : (pages : PageMap) (r : LayerRecord) (h : Reading) → h.row ≡ record_of r
    → LayerStands pages h
    → (before pushed now : List DumpRow) (create : DumpRow) (objects : List (ℕ × Object))
    → pushed ≡ before ++ create ∷ [] → line_of_row create ≡ CreateLine r.name.items r.dims r.fanout
    → objects ≡ entries h.layer.objects
    → lines_of now ≡ lines_of pushed ++ map (λ (o : ℕ × Object). InsertLine r.name.items o.0 o.1) objects
    → lines_of now ≡ lines_of before ++ dump_lines (entry_of h)
layer_dumped pages r h row stands before pushed now create objects added made all rest =
    let name : r.name.items ≡ h.row.name = sym (ap (λ (x : Record). x.name) row) in
    let dims : r.dims ≡ h.layer.dims = sym (stands.dims ∙ ap (λ (x : Record). x.dims) row) in
    let fanout : r.fanout ≡ h.layer.fanout = sym (stands.fanout ∙ ap (λ (x : Record). x.fanout) row) in
    let inserts : List DumpLine = map (λ (o : ℕ × Object). InsertLine r.name.items o.0 o.1) objects in
    let first : lines_of pushed ≡ lines_of before ++ CreateLine r.name.items r.dims r.fanout ∷ [] =
    ap lines_of added ∙ map-append line_of_row before (create ∷ [])
    ∙ ap (λ (line : DumpLine). lines_of before ++ line ∷ []) made in
    let same : CreateLine r.name.items r.dims r.fanout ∷ inserts ≡ dump_lines (entry_of h) =
    λ i. CreateLine (name i) (dims i) (fanout i) ∷ map (λ (o : ℕ × Object). InsertLine (name i) o.0 o.1)
    (all i) in
    rest ∙ ap (λ (lines : List DumpLine). lines ++ inserts) first
    ∙ append_assoc (lines_of before) (CreateLine r.name.items r.dims r.fanout ∷ []) inserts
    ∙ ap (λ (lines : List DumpLine). lines_of before ++ lines) same

-- one layer after the other
pub layers_dumped : (hs : List Reading) (i : ℕ) → i < length hs
    → lines_of_layers (take (i + 1) hs) ≡ lines_of_layers (take i hs)
    ++ dump_lines (entry_of (get_or hs i no_reading))
layers_dumped hs i lt =
    let h = get_or hs i no_reading in
    ap lines_of_layers (take_more hs i no_reading lt)
    ∙ ap (flat_map dump_lines) (map-append entry_of (take i hs) (h ∷ []))
    ∙ flat_map-append dump_lines (map entry_of (take i hs)) (entry_of h ∷ [])
    ∙ ap (λ (lines : List DumpLine). lines_of_layers (take i hs) ++ lines)
    (append-nil (dump_lines (entry_of h)))
