-- What questions are answered of the layer of a name: as the table answers them, or a fault.
use Rattle.std.proofs.Common.{◌≡◌, ◌∙◌, ◌⊎◌, ℕ, List, [], ◌∷◌, ◌&&◌, true, false, not, Option, Some, None}
use Rattle.std.proofs.Common.{refl, sym, ap, subst, inl, inr}
use Rattle.std.specs.Prelude.{IsErrAnd, IsPermutation, Ok, Err, Result, Vec, ◌==◌, filter, is_some, unwrap_or}
use Rattle.std.specs.FinMap.{entries, get}
use Rattle.box_math.specs.Objects.{Object, bounds_of, has_tag}
use Rattle.box_math.specs.Queries.{admits, seeks}
use Rattle.box_math.specs.declared.query.Query.{Query}
use Rattle.plain_table.specs.Answers.{boxes_answer, count_answer, distances_answer, object_answer}
use Rattle.plain_table.specs.Commands.{Command}
use Rattle.plain_table.specs.Nearest.{is_count}
use Rattle.plain_table.specs.Queries.{given_query, is_wanted}
use Rattle.plain_table.specs.Step.{Answer, answer_of, first_refusal, missing_refusals, object_row}
use Rattle.plain_table.specs.Step.{query_refusals, range_rows, refusal_of, refused_or, reply_of}
use Rattle.plain_table.specs.Step.Answer.{Boxes, Refused}
use Rattle.plain_table.specs.Table.{Layer, Table, is_layer_name, no_object}
use Rattle.plain_table.specs.declared.boxes.AnyBox.{AnyBox}
use Rattle.plain_table.specs.declared.queries.RawQuery.{RawQuery}
use Rattle.plain_table.specs.declared.refusal.Refusal.{Refusal}
use Rattle.plain_table.specs.declared.refusal.Refusal.TheVariants as refusal
use Rattle.store_law.specs.Lawful.{IsFault, RefusedBy}
use Rattle.tree_node.specs.Searches.{admitted}
use Rattle.live_layers.specs.Keeping.{Belongs, Finds, LooksAtTree}
use Rattle.live_layers.specs.Questions.{IsNamed, IsReply, IsUnnamed, is_admitted}
use Rattle.live_layers.specs.declared.layers.Layers.{Layers}
use Rattle.live_layers.proofs.AskLemmas.{named_there, not_there}

-- ---- the layer of a name

pub is_named : (t : Table) (name : List ℕ) (place : ℕ) → is_layer_name name ≡ true → Finds t name place
    → IsNamed t name
is_named t name place good finds = λ more. let there = named_there t name place finds in rw (good, there) refl

pub bad_name : (t : Table) (name : List ℕ) → is_layer_name name ≡ false → IsUnnamed t name refusal.BadName
bad_name t name e = λ more. rw e refl

pub none_named : (t : Table) (name : List ℕ) (place : ℕ) → is_layer_name name ≡ true → Belongs t name place
    → IsUnnamed t name refusal.NoLayer
none_named t name place good belongs = λ more. let absent = not_there t name place belongs in
    rw (good, absent) refl

-- ---- replies

-- what is answered of a layer of the name is what the table answers, or a fault
pub replied : (rose : Type 0) (t : Table) (c : Command) (why : Option Refusal) (a : Answer)
    → refusal_of t c ≡ why → IsReply rose why (answer_of t c) a
    → (a ≡ reply_of t c) ⊎ RefusedBy (IsFault rose) a
replied rose t c why a e (inl is) =
    inl (is ∙ ap (λ (o : Option Refusal). refused_or o (answer_of t c)) (sym e))
replied rose t c why a e (inr failed) = inr failed

-- a fault
pub reply_failed : (rose : Type 0) (why : Option Refusal) (answer a : Answer) (r : Refusal) → IsFault rose r
    → a ≡ Refused r → IsReply rose why answer a
reply_failed rose why answer a r failed is = inr (subst (RefusedBy (IsFault rose)) (sym is) failed)

-- the answers of a refusal that is known
pub err_boxes : {A : Type 0} (result : Result (Vec (ℕ × AnyBox × ℕ) A) Refusal) (r : Refusal)
    → IsErrAnd result (λ e. e ≡ r) → boxes_answer result ≡ Refused r
err_boxes (Ok rows) r is = absurd is
err_boxes (Err e) r is = ap Refused is

pub err_object : (id : ℕ) (result : Result (AnyBox × ℕ) Refusal) (r : Refusal) → IsErrAnd result (λ e. e ≡ r)
    → object_answer id result ≡ Refused r
err_object id (Ok kept) r is = absurd is
err_object id (Err e) r is = ap Refused is

pub err_count : (result : Result ℕ Refusal) (r : Refusal) → IsErrAnd result (λ e. e ≡ r)
    → count_answer result ≡ Refused r
err_count (Ok count) r is = absurd is
err_count (Err e) r is = ap Refused is

pub err_distances : {A : Type 0} (result : Result (Vec (ℕ × ℕ) A) Refusal) (r : Refusal)
    → IsErrAnd result (λ e. e ≡ r) → distances_answer result ≡ Refused r
err_distances (Ok rows) r is = absurd is
err_distances (Err e) r is = ap Refused is

-- a command refused by the table
pub refused : (t : Table) (c : Command) (r : Refusal) → refusal_of t c ≡ Some r → Refused r ≡ reply_of t c
refused t c r e = ap (λ (o : Option Refusal). refused_or o (answer_of t c)) (sym e)

-- ---- ranges

module _ (D : ℕ) where
  -- the nodes that it admits
  nodes_same : (layer : Layer) (query : RawQuery) (asked : Query D) → layer.dims ≡ D
      → asked ≡ given_query query → admitted (admits asked) ≡ admitted (is_admitted layer.dims query)
  nodes_same layer query asked dims is = ap (λ (q : Query D). admitted (admits q)) is
      ∙ ap (λ (d : ℕ). admitted (is_admitted d query)) (sym dims)

  pub looks_same : {B A : Type 0} {m : _} (old new : Layers B A m) (name : List ℕ) (layer : Layer)
      (query : RawQuery) (asked : Query D) → layer.dims ≡ D → asked ≡ given_query query
      → LooksAtTree old new name (admitted (admits asked))
      → LooksAtTree old new name (admitted (is_admitted layer.dims query))
  looks_same old new name layer query asked dims is looks =
      subst (LooksAtTree old new name) (nodes_same layer query asked dims is) looks

  -- the rows that it seeks, said of the query that was given
  rows_same : (layer : Layer) (query : RawQuery) (asked : Query D) (tag : Option ℕ) → layer.dims ≡ D
      → asked ≡ given_query query
      → filter (λ row. seeks asked (bounds_of row.1) && has_tag tag row.1) (entries layer.objects)
      ≡ range_rows layer query tag
  rows_same layer query asked tag dims is =
      ap (λ (q : Query D). filter (λ row. seeks q (bounds_of row.1) && has_tag tag row.1) (entries layer.objects)) is
      ∙ ap (λ (d : ℕ). filter (λ row. is_wanted d query tag row.1) (entries layer.objects)) (sym dims)

  -- those in any order
  pub rows_sought : (layer : Layer) (query : RawQuery) (asked : Query D) (tag : Option ℕ) (rows : List (ℕ × Object))
      → layer.dims ≡ D → asked ≡ given_query query
      → IsPermutation (filter (λ row. seeks asked (bounds_of row.1) && has_tag tag row.1) (entries layer.objects)) rows
      → IsPermutation (range_rows layer query tag) rows
  rows_sought layer query asked tag rows dims is =
      subst (λ (found : List (ℕ × Object)). IsPermutation found rows) (rows_same layer query asked tag dims is)

  -- the rows that it is answered
  pub rows_replied : (rose : Type 0) (layer : Layer) (query : RawQuery) (asked : Query D) (tag : Option ℕ)
      (rows : List (ℕ × Object)) → layer.dims ≡ D → first_refusal (query_refusals D query) ≡ None
      → asked ≡ given_query query
      → rows ≡ filter (λ row. seeks asked (bounds_of row.1) && has_tag tag row.1) (entries layer.objects)
      → IsReply rose (first_refusal (query_refusals layer.dims query)) (Boxes (range_rows layer query tag))
      (Boxes rows)
  rows_replied rose layer query asked tag rows dims good is found =
      let none : first_refusal (query_refusals layer.dims query) ≡ None =
      ap (λ (d : ℕ). first_refusal (query_refusals d query)) dims ∙ good in
      let same : rows ≡ range_rows layer query tag = found ∙ rows_same layer query asked tag dims is in
      inl (ap Boxes same
      ∙ ap (λ (o : Option Refusal). refused_or o (Boxes (range_rows layer query tag))) (sym none))

-- ---- one object

pub object_missing : (rose : Type 0) (layer : Layer) (id : ℕ) → get layer.objects id ≡ None
    → IsReply rose (first_refusal (missing_refusals layer id)) (Boxes (object_row layer id ∷ []))
    (Refused refusal.NoObject)
object_missing rose layer id e =
    inl (ap (λ (o : Option Object). refused_or (first_refusal ((not (is_some o), refusal.NoObject) ∷ []))
    (Boxes ((id, unwrap_or o no_object) ∷ []))) (sym e))

pub object_found : (rose : Type 0) (layer : Layer) (id : ℕ) (kept : Object) → get layer.objects id ≡ Some kept
    → IsReply rose (first_refusal (missing_refusals layer id)) (Boxes (object_row layer id ∷ []))
    (Boxes ((id, kept) ∷ []))
object_found rose layer id kept e =
    inl (ap (λ (o : Option Object). refused_or (first_refusal ((not (is_some o), refusal.NoObject) ∷ []))
    (Boxes ((id, unwrap_or o no_object) ∷ []))) (sym e))

-- ---- the nearest

-- a point of as many axes as the layer has, and a number that may be asked for
pub good_count : (dims k : ℕ) (layer : Layer) → (dims == layer.dims) ≡ true → is_count k ≡ true
    → first_refusal
    ((not (dims == layer.dims), refusal.WrongDims) ∷ (not (is_count k), refusal.BadCount) ∷ []) ≡ None
good_count dims k layer e f = rw (e, f) refl
