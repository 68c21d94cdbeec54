-- The calls of an import, one more.
use Rattle.std.proofs.Common.{◌≡◌, ◌∙◌, ◌+◌, ◌<◌, ◌≤◌, ◌++◌, ℕ, List, [], ◌∷◌, ap, length, get_or}
use Rattle.std.proofs.Common.{refl, sym}
use Rattle.std.proofs.Common.{drop, subst, take}
use Rattle.std.proofs.Common.{Bool, Err, None, Ok, Result, Some, inl, inr, true}
use Rattle.std.specs.Prelude.{IfErr, if◌then◌else◌, is_ok, nat_lt}
use Rattle.std.proofs.lemmas.List.{append_assoc, map-append, take-append-drop, take_all, take_more}
use Rattle.plain_table.specs.Answers.{done_answer}
use Rattle.plain_table.specs.declared.refusal.Refusal.{Refusal}
use Rattle.plain_table.specs.declared.refusal.Refusal.TheVariants as refusal
use Rattle.plain_table.specs.Commands.{Command}
use Rattle.plain_table.specs.Commands.Command.{Count, Create, Insert, Load}
use Rattle.plain_table.specs.Loads.{GivenObjects}
use Rattle.plain_table.specs.Step.{Answer}
use Rattle.plain_table.specs.Step.Answer.{Counted, Done, Refused}
use Rattle.plain_table.specs.declared.boxes.RawBox.{RawBox}
use Rattle.store_law.specs.States.{Request}
use Rattle.store_law.specs.States.Request.{Asks}
use Rattle.layer_store.specs.Calls.{Calls, IsAsked}
use Rattle.layer_store.specs.declared.store.Store.{Store}
use Rattle.layer_store.proofs.SessionLemmas.{steps_join}
use Rattle.layer_import.specs.declared.import.Unimported.{Unimported}
use Rattle.layer_import.specs.Imports.{ArePut, EndsRefused, Inserts, IsPut, IsPutRefused, Puts, all_done}
use Rattle.layer_import.specs.Imports.{asked, commands_after, insertions, outcome_of}

-- calls in turn, and one more
pub calls_more : {D A : Type 0} {m : _} (old mid new : Store D A m) (rs : List Request) (as' : List Answer)
    (r : Request) (a : Answer) → Calls old mid rs as' → IsAsked mid r a new
    → Calls old new (rs ++ r ∷ []) (as' ++ a ∷ [])
calls_more old mid new rs as' r a calls one =
    steps_join IsAsked old mid new rs (r ∷ []) as' (a ∷ []) calls (new, one, refl)

-- insertions only put objects
pub insertions_put : (layer : List ℕ) (objects : GivenObjects) → ArePut (asked (insertions layer objects))
insertions_put layer [] = tt
insertions_put layer (object ∷ objects) = (tt, insertions_put layer objects)

pub put_more : (rs : List Request) (r : Request) → ArePut rs → IsPut r → ArePut (rs ++ r ∷ [])
put_more [] r h one = (one, tt)
put_more (q ∷ rs) r h one = (h.0, put_more rs r h.1 one)

-- the insertions of the first objects, and of one more
pub asked_more : (layer : List ℕ) (objects : GivenObjects) (i : ℕ) (d : ℕ × RawBox × ℕ) → i < length objects
    → asked (insertions layer (take (i + 1) objects))
    ≡ asked (insertions layer (take i objects)) ++ asked (insertions layer (get_or objects i d ∷ []))
asked_more layer objects i d h =
    ap (λ (xs : GivenObjects). asked (insertions layer xs)) (take_more objects i d h)
    ∙ ap asked (map-append _ (take i objects) (get_or objects i d ∷ []))
    ∙ map-append _ (insertions layer (take i objects)) _

pub done_more : (layer : List ℕ) (objects : GivenObjects) (i : ℕ) (d : ℕ × RawBox × ℕ) → i < length objects
    → all_done (insertions layer (take (i + 1) objects))
    ≡ all_done (insertions layer (take i objects)) ++ all_done (insertions layer (get_or objects i d ∷ []))
done_more layer objects i d h =
    ap (λ (xs : GivenObjects). all_done (insertions layer xs)) (take_more objects i d h)
    ∙ ap all_done (map-append _ (take i objects) (get_or objects i d ∷ []))
    ∙ map-append _ (insertions layer (take i objects)) _

-- ---- objects that are inserted in turn

module _ {D A : Type 0} {m : _} (old mid new : Store D A m) (layer : List ℕ) (objects : GivenObjects) where
  -- the calls that inserted the first of them
  abbrev pub First : Store D A m → ℕ → Type 0
  First store i =
      Calls old store (asked (insertions layer (take i objects))) (all_done (insertions layer (take i
      objects)))

  abbrev insertion : ℕ × RawBox × ℕ → Request
  insertion object = Asks (Insert layer object.0 object.1 object.2)

  -- one more
  pub inserted_more : (i : ℕ) (d : ℕ × RawBox × ℕ) → i < length objects → First mid i
      → IsAsked mid (insertion (get_or objects i d)) Done new → First new (i + 1)
  inserted_more i d h first one =
      let rs = asked (insertions layer (take i objects)) in
      let xs = all_done (insertions layer (take i objects)) in
      subst (λ (qs : List Request). Calls old new qs (all_done (insertions layer (take (i + 1) objects))))
      (sym (asked_more layer objects i d h))
      (subst (λ (ys : List Answer). Calls old new (rs ++ insertion (get_or objects i d) ∷ []) ys)
      (sym (done_more layer objects i d h))
      (calls_more old mid new rs xs (insertion (get_or objects i d)) Done first one))

  -- one that was refused
  pub insertion_refused : (i : ℕ) (d : ℕ × RawBox × ℕ) (r : Refusal) → i < length objects → First mid i
      → IsAsked mid (insertion (get_or objects i d)) (Refused r) new
      → Inserts (Calls old new) layer objects
      (Err (record { refusal = r; object = Some (get_or objects i d).0 }))
  insertion_refused i d r h first one =
      let object = get_or objects i d in
      let done = insertions layer (take i objects) in
      let last = Insert layer object.0 object.1 object.2 in record {
        requests = asked done ++ Asks last ∷ [];
        answers = all_done done ++ Refused r ∷ [];
        so = calls_more old mid new _ _ (Asks last) (Refused r) first one;
        are_put = put_more _ (Asks last) (insertions_put layer (take i objects)) tt;
        all = λ is. absurd (cc);
        refused = record {
          done = done;
          last = last;
          left = insertions layer (drop (i + 1) objects);
          commands_are = ap (insertions layer) (parted i d h)
              ∙ map-append _ (take i objects) (object ∷ drop (i + 1) objects);
          requests_are = sym (map-append _ done (last ∷ []));
          answers_are = refl;
          object = refl;
        };
      }
    where
      -- the objects before one, it, and those after it
      parted : (i : ℕ) (d : ℕ × RawBox × ℕ) → i < length objects
          → objects ≡ take i objects ++ get_or objects i d ∷ drop (i + 1) objects
      parted i d h =
          sym (take-append-drop (i + 1) objects)
          ∙ ap (λ (xs : GivenObjects). xs ++ drop (i + 1) objects) (take_more objects i d h)
          ∙ append_assoc (take i objects) (get_or objects i d ∷ []) (drop (i + 1) objects)

-- all of them
pub all_inserted : {D A : Type 0} {m : _} (old new : Store D A m) (layer : List ℕ) (objects : GivenObjects)
    (i : ℕ) → length objects ≤ i
    → Calls old new (asked (insertions layer (take i objects))) (all_done (insertions layer (take i objects)))
    → Inserts (Calls old new) layer objects (Ok tt)
all_inserted old new layer objects i all calls =
    let same : take i objects ≡ objects = take_all i objects all in
    record {
      requests = asked (insertions layer objects);
      answers = all_done (insertions layer objects);
      so = subst (λ (xs : GivenObjects). Calls old new (asked (insertions layer xs))
          (all_done (insertions layer xs))) same calls;
      are_put = insertions_put layer objects;
      all = λ is. (refl, refl);
      refused = tt;
    }

-- ---- what was put into a layer

-- what was done is told as done
done_is : (loaded : Result (Unit {0}) Refusal) → is_ok (outcome_of loaded) ≡ true → done_answer loaded ≡ Done
done_is (Ok u) is = refl
done_is (Err r) is = absurd (cc)

-- and what was refused as refused, after these commands
load_refused : (loaded : Result (Unit {0}) Refusal) (done commands : List Command) (layer : List ℕ)
    (objects : GivenObjects) → commands ≡ done ++ Load layer objects ∷ []
    → IfErr (outcome_of loaded)
    (EndsRefused commands (asked (done ++ Load layer objects ∷ [])) (all_done done ++ done_answer loaded ∷ []))
load_refused (Ok u) done commands layer objects are = tt
load_refused (Err r) done commands layer objects are = record {
  done = done;
  last = Load layer objects;
  left = [];
  commands_are = are;
  requests_are = refl;
  answers_are = refl;
  object = refl;
}

-- the count before them
refused_after : (counted : Answer) (layer : List ℕ) (dims fanout : ℕ) (objects : GivenObjects)
    (rest : List Request) (answered : List Answer) (outcome : Result (Unit {0}) Unimported)
    → IfErr outcome (EndsRefused (commands_after counted layer dims fanout objects) rest answered)
    → IfErr outcome
    (IsPutRefused layer dims fanout objects (Asks (Count layer) ∷ rest) (counted ∷ answered))
refused_after counted layer dims fanout objects rest answered (Ok u) h = tt
refused_after counted layer dims fanout objects rest answered (Err why) h =
    inr (counted, rest, answered, refl, refl, h)

module _ {D A : Type 0} {m : _} (old mid new : Store D A m) (layer : List ℕ) (dims fanout : ℕ)
    (objects : GivenObjects) where
  -- the layer had no object
  pub puts_loaded : (loaded : Result (Unit {0}) Refusal) → IsAsked old (Asks (Count layer)) (Counted 0) mid
      → IsAsked mid (Asks (Load layer objects)) (done_answer loaded) new
      → Puts (Calls old new) layer dims fanout objects (outcome_of loaded)
  puts_loaded loaded count load = record {
    requests = Asks (Count layer) ∷ Asks (Load layer objects) ∷ [];
    answers = Counted 0 ∷ done_answer loaded ∷ [];
    so = (mid, count, (new, load, refl));
    are_put = (tt, (tt, tt));
    all = λ is. inl (refl, ap (λ (a : Answer). Counted 0 ∷ a ∷ []) (done_is loaded is));
    refused =
        refused_after (Counted 0) layer dims fanout objects (Asks (Load layer objects) ∷ [])
        (done_answer loaded ∷ []) (outcome_of loaded)
        (load_refused loaded [] (Load layer objects ∷ []) layer objects refl);
  }

  -- it had objects
  pub puts_filled : (outcome : Result (Unit {0}) Unimported) (count : ℕ) → nat_lt 0 count ≡ true
      → IsAsked old (Asks (Count layer)) (Counted count) mid → Inserts (Calls mid new) layer objects outcome
      → Puts (Calls old new) layer dims fanout objects outcome
  puts_filled outcome count some one rest = record {
    requests = Asks (Count layer) ∷ rest.requests;
    answers = Counted count ∷ rest.answers;
    so = (mid, one, rest.so);
    are_put = (tt, rest.are_put);
    all = λ is.
        let all = rest.all is in
        inr (inr (
          count,
          some,
          ap (λ (rs : List Request). Asks (Count layer) ∷ rs) all.0,
          ap (λ (as' : List Answer). Counted count ∷ as') all.1,
        ));
    refused =
        refused_after (Counted count) layer dims fanout objects rest.requests rest.answers outcome
        (subst (λ (b : Bool). IfErr outcome
        (EndsRefused (if b then insertions layer objects else Load layer objects ∷ []) rest.requests
        rest.answers)) (sym some) rest.refused);
  }

  -- it was not there, and was not made
  pub puts_unmade : (r : Refusal) → IsAsked old (Asks (Count layer)) (Refused refusal.NoLayer) mid
      → IsAsked mid (Asks (Create layer dims fanout)) (Refused r) new
      → Puts (Calls old new) layer dims fanout objects (Err (record { refusal = r; object = None }))
  puts_unmade r count create = record {
    requests = Asks (Count layer) ∷ Asks (Create layer dims fanout) ∷ [];
    answers = Refused refusal.NoLayer ∷ Refused r ∷ [];
    so = (mid, count, (new, create, refl));
    are_put = (tt, (tt, tt));
    all = λ is. absurd (cc);
    refused = inr (
      Refused refusal.NoLayer,
      Asks (Create layer dims fanout) ∷ [],
      Refused r ∷ [],
      refl,
      refl,
      record {
        done = [];
        last = Create layer dims fanout;
        left = Load layer objects ∷ [];
        commands_are = refl;
        requests_are = refl;
        answers_are = refl;
        object = refl;
      },
    );
  }

  -- or it was
  pub puts_made : (made : Store D A m) (loaded : Result (Unit {0}) Refusal)
      → IsAsked old (Asks (Count layer)) (Refused refusal.NoLayer) mid
      → IsAsked mid (Asks (Create layer dims fanout)) Done made
      → IsAsked made (Asks (Load layer objects)) (done_answer loaded) new
      → Puts (Calls old new) layer dims fanout objects (outcome_of loaded)
  puts_made made loaded count create load = record {
    requests = Asks (Count layer) ∷ Asks (Create layer dims fanout) ∷ Asks (Load layer objects) ∷ [];
    answers = Refused refusal.NoLayer ∷ Done ∷ done_answer loaded ∷ [];
    so = (mid, count, (made, create, (new, load, refl)));
    are_put = (tt, (tt, (tt, tt)));
    all = λ is. inr
        (inl (
          refl,
          ap (λ (a : Answer). Refused refusal.NoLayer ∷ Done ∷ a ∷ []) (done_is loaded is),
        ));
    refused =
        refused_after (Refused refusal.NoLayer) layer dims fanout objects
        (Asks (Create layer dims fanout) ∷ Asks (Load layer objects) ∷ []) (Done ∷ done_answer loaded ∷ [])
        (outcome_of loaded)
        (load_refused loaded (Create layer dims fanout ∷ [])
        (Create layer dims fanout ∷ Load layer objects ∷ []) layer objects refl);
  }

-- or nothing was asked further
pub puts_none : {D A : Type 0} {m : _} (old new : Store D A m) (layer : List ℕ) (dims fanout : ℕ)
    (objects : GivenObjects) (r : Refusal) → IsAsked old (Asks (Count layer)) (Refused r) new
    → Puts (Calls old new) layer dims fanout objects (Err (record { refusal = r; object = None }))
puts_none old new layer dims fanout objects r count = record {
  requests = Asks (Count layer) ∷ [];
  answers = Refused r ∷ [];
  so = (new, count, refl);
  are_put = (tt, tt);
  all = λ is. absurd (cc);
  refused = inl (refl, refl, refl);
}
