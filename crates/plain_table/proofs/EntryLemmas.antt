-- Where a key stands in a list of entries that is in order, or belongs, and the map that the list is.
use Rattle.std.proofs.Common.{◌≡◌, ℕ, zero, suc, ◌<◌, ◌≤◌, List, [], ◌∷◌, length, get_or, Some, None, Bool}
use Rattle.std.proofs.Common.{true, false, cond, refl, sym, ap, ◌∙◌, subst, arith, T, ◌&&◌}
use Rattle.std.specs.Prelude.{slice_index_or, slice_set, Result, Ok, Err, is_ok, is_some, IsTrue}
use Rattle.std.specs.Ordering.{is_lt, is_eq}
use Rattle.std.specs.Cmp.{IsTotalOrder}
use Rattle.std.specs.declared.cmp.Ordering.{Ordering}
use Rattle.std.specs.declared.cmp.Ordering.TheVariants.{Less, Equal, Greater}
use Rattle.std.specs.List.{insert, AllWithin}
use Rattle.std.specs.FinMap.{find, put, is_sorted, from_sorted, contains_key, get, insert as map_insert}
use Rattle.std.specs.FinMap.{entries_sorted, entries-insert, entries-from_sorted, get-from_sorted}
use Rattle.std.specs.FinMap.{same_entries_map, empty, empty_of_len, len-entries, entries}
use Rattle.std.specs.FinMap.Entries.{below_all, by_order}
use Rattle.std.proofs.lemmas.List.{get_or_default}
use Rattle.plain_table.specs.Entries.{IsEntryAt, BelongsAt, IsSearched}

pub less_is : (o : Ordering) → T (is_lt o) → o ≡ Less
less_is Less h = refl
less_is Equal h = absurd h
less_is Greater h = absurd h

pub yes : {b : Bool} → IsTrue b → T b
yes h = subst T (sym h) tt

is_true : (b : Bool) → T b → IsTrue b
is_true true h = refl
is_true false h = absurd h

pub left_of : (a b : Bool) → T (a && b) → T a
left_of true b h = tt
left_of false b h = h

pub right_of : (a b : Bool) → T (a && b) → T b
right_of true b h = h
right_of false b h = absurd h

module _ {K X : Type 0} (R : K → K → Ordering) where
  put_less : (k : K) (v : X) (e : K × X) (es : List (K × X)) → R k e.0 ≡ Less
      → put R k v (e ∷ es) ≡ (k, v) ∷ e ∷ es
  put_less k v e es h = ap (λ o. by_order o ((k, v) ∷ e ∷ es) ((e.0, v) ∷ es) (e ∷ put R k v es)) h

  put_equal : (k : K) (v : X) (e : K × X) (es : List (K × X)) → R k e.0 ≡ Equal
      → put R k v (e ∷ es) ≡ (e.0, v) ∷ es
  put_equal k v e es h = ap (λ o. by_order o ((k, v) ∷ e ∷ es) ((e.0, v) ∷ es) (e ∷ put R k v es)) h

  put_greater : (k : K) (v : X) (e : K × X) (es : List (K × X)) → R k e.0 ≡ Greater
      → put R k v (e ∷ es) ≡ e ∷ put R k v es
  put_greater k v e es h = ap (λ o. by_order o ((k, v) ∷ e ∷ es) ((e.0, v) ∷ es) (e ∷ put R k v es)) h

  find_equal : (k : K) (e : K × X) (es : List (K × X)) → R k e.0 ≡ Equal → find R k (e ∷ es) ≡ Some e.1
  find_equal k e es h = ap (λ o. cond (is_eq o) (Some e.1) (find R k es)) h

  find_less : (k : K) (e : K × X) (es : List (K × X)) → R k e.0 ≡ Less → find R k (e ∷ es) ≡ find R k es
  find_less k e es h = ap (λ o. cond (is_eq o) (Some e.1) (find R k es)) h

  find_greater : (k : K) (e : K × X) (es : List (K × X)) → R k e.0 ≡ Greater → find R k (e ∷ es) ≡ find R k es
  find_greater k e es h = ap (λ o. cond (is_eq o) (Some e.1) (find R k es)) h

  -- a key below one that is below all others is not there
  absent_below : IsTotalOrder R → (k x : K) (es : List (K × X)) → R k x ≡ Less → T (below_all R x es)
      → find R k es ≡ None
  absent_below o k x [] h b = refl
  absent_below o k x (e ∷ es) h b =
      find_less k e es (o.trans k x e.0 h (less_is (R x e.0) (left_of _ _ b)))
      ∙ absent_below o k x es h (right_of _ _ b)

  -- the entry at this place ties, and all before it are below
  pub is_entry_at : (k : K) (es : List (K × X)) (i : ℕ) → i < length es
      → AllWithin (λ e. R k e.0 ≡ Greater) es 0 i → ((d : K × X) → R k (get_or es i d).0 ≡ Equal)
      → IsEntryAt R es k i
  is_entry_at k [] i l b h = absurd (omega (arith, l))
  is_entry_at k (e ∷ es) zero l b h = record {
    within = l;
    found = λ d. find_equal k e es (h d);
    replaced = λ v d. put_equal k v e es (h d);
  }
  is_entry_at k (e ∷ es) (suc i) l b h =
      let first : R k e.0 ≡ Greater = b 0 e (omega arith) (omega arith) in
      let rest =
      is_entry_at k es i (omega (arith, l))
      (λ j d low high. b (suc j) d (omega arith) (omega (arith, high))) h in
      record {
        within = l;
        found = λ d. find_greater k e es first ∙ rest.found d;
        replaced = λ v d. put_greater k v e es first ∙ ap (λ t. e ∷ t) (rest.replaced v d);
      }

  -- all before this place are below, and the one there, if any, is above
  pub belongs_at : IsTotalOrder R → (k : K) (es : List (K × X)) (i : ℕ) → i ≤ length es
      → IsTrue (is_sorted R es) → AllWithin (λ e. R k e.0 ≡ Greater) es 0 i
      → ((d : K × X) → i < length es → R k (get_or es i d).0 ≡ Less) → BelongsAt R es k i
  belongs_at o k [] i l s b h =
      let none : i ≡ 0 = omega (arith, l) in
      record { within = l; absent = refl; inserted = λ v. ap (λ j. insert [] j (k, v)) (sym none) }
  belongs_at o k (e ∷ es) zero l s b h =
      let first : R k e.0 ≡ Less = h e (omega arith) in
      record {
        within = l;
        absent = find_less k e es first ∙ absent_below o k e.0 es first (left_of _ _ (yes s));
        inserted = λ v. put_less k v e es first;
      }
  belongs_at o k (e ∷ es) (suc i) l s b h =
      let first : R k e.0 ≡ Greater = b 0 e (omega arith) (omega arith) in
      let rest =
      belongs_at o k es i (omega (arith, l)) (is_true _ (right_of _ _ (yes s)))
      (λ j d low high. b (suc j) d (omega arith) (omega (arith, high))) (λ d m. h d (omega (arith, m))) in
      record {
        within = l;
        absent = find_greater k e es first ∙ rest.absent;
        inserted = λ v. put_greater k v e es first ∙ ap (λ t. e ∷ t) (rest.inserted v);
      }

-- Entries in order, and the map that they are.
module _ {K X : Type 0} (R : K → K → Ordering) where
  pub put_in_order : IsTotalOrder R → (es : List (K × X)) (k : K) (v : X) → IsTrue (is_sorted R es)
      → IsTrue (is_sorted R (put R k v es))
  put_in_order o es k v h =
      subst (λ xs. IsTrue (is_sorted R xs))
      (entries-insert o (from_sorted {R = R} es) k v ∙ ap (put R k v) (entries-from_sorted R es (yes h)))
      (is_true _ (entries_sorted (map_insert (from_sorted {R = R} es) k v)))

  pub put_map : IsTotalOrder R → (es : List (K × X)) (k : K) (v : X) → IsTrue (is_sorted R es)
      → from_sorted {R = R} (put R k v es) ≡ map_insert (from_sorted {R = R} es) k v
  put_map o es k v h =
      same_entries_map (from_sorted {R = R} (put R k v es)) (map_insert (from_sorted {R = R} es) k v)
      (entries-from_sorted R (put R k v es) (yes (put_in_order o es k v h))
      ∙ ap (put R k v) (sym (entries-from_sorted R es (yes h)))
      ∙ sym (entries-insert o (from_sorted {R = R} es) k v))

  found_some : (es : List (K × X)) (k : K) (i : ℕ) → IsEntryAt R es k i → is_some (find R k es) ≡ true
  found_some [] k i s = absurd (omega (arith, s.within))
  found_some (e ∷ es) k i s = ap is_some (s.found e)

  -- what a search answers is whether the map has the key
  pub found_key : (es : List (K × X)) (k : K) (r : Result ℕ ℕ) → IsTrue (is_sorted R es)
      → IsSearched R es k r → is_ok r ≡ contains_key (from_sorted {R = R} es) k
  found_key es k (Ok i) h s = sym (ap is_some (get-from_sorted R es k (yes h)) ∙ found_some es k i s)
  found_key es k (Err i) h s = sym (ap is_some (get-from_sorted R es k (yes h) ∙ s.absent))

  -- the value of the entry that was read where the key stands, and none where it belongs
  pub found_value : (es : List (K × X)) (k : K) (i : ℕ) (e : K × X) → IsTrue (is_sorted R es)
      → IsEntryAt R es k i → e ≡ slice_index_or es i e → get (from_sorted {R = R} es) k ≡ Some e.1
  found_value es k i e h s is = get-from_sorted R es k (yes h) ∙ s.found e
      ∙ ap (λ (x : K × X). Some x.1) (sym is)

  pub absent_value : (es : List (K × X)) (k : K) (i : ℕ) → IsTrue (is_sorted R es) → BelongsAt R es k i
      → get (from_sorted {R = R} es) k ≡ None
  absent_value es k i h s = get-from_sorted R es k (yes h) ∙ s.absent

  -- an entry more where a new key belongs
  pub inserted_in_order : IsTotalOrder R → (es : List (K × X)) (k : K) (v : X) (i : ℕ)
      → IsTrue (is_sorted R es) → BelongsAt R es k i → IsTrue (is_sorted R (insert es i (k, v)))
  inserted_in_order o es k v i h b =
      subst (λ xs. IsTrue (is_sorted R xs)) (b.inserted v) (put_in_order o es k v h)

  pub inserted_map : IsTotalOrder R → (es : List (K × X)) (k : K) (v : X) (i : ℕ) → IsTrue (is_sorted R es)
      → BelongsAt R es k i
      → from_sorted {R = R} (insert es i (k, v)) ≡ map_insert (from_sorted {R = R} es) k v
  inserted_map o es k v i h b = ap from_sorted (sym (b.inserted v)) ∙ put_map o es k v h

  -- another value where the key stands, in the entry e that was read there
  pub replaced_in_order : IsTotalOrder R → (es : List (K × X)) (k : K) (v : X) (i : ℕ) (e : K × X)
      → IsTrue (is_sorted R es) → IsEntryAt R es k i → e ≡ slice_index_or es i e
      → IsTrue (is_sorted R (slice_set es i (e.0, v)))
  replaced_in_order o es k v i e h s is =
      subst (λ xs. IsTrue (is_sorted R xs))
      (s.replaced v e ∙ ap (λ (x : K × X). slice_set es i (x.0, v)) (sym is)) (put_in_order o es k v h)

  pub replaced_map : IsTotalOrder R → (es : List (K × X)) (k : K) (v : X) (i : ℕ) (e : K × X)
      → IsTrue (is_sorted R es) → IsEntryAt R es k i → e ≡ slice_index_or es i e
      → from_sorted {R = R} (slice_set es i (e.0, v)) ≡ map_insert (from_sorted {R = R} es) k v
  replaced_map o es k v i e h s is =
      ap from_sorted (ap (λ (x : K × X). slice_set es i (x.0, v)) is ∙ sym (s.replaced v e))
      ∙ put_map o es k v h

  -- an element that was read is that of any default
  pub at_default : {o : Ordering} (k : K) (es : List (K × X)) (i : ℕ) (e : K × X) → i < length es
      → e ≡ get_or es i e → R k e.0 ≡ o → (d : K × X) → R k (get_or es i d).0 ≡ o
  at_default k es i e l is h d = ap (λ (x : K × X). R k x.0) (get_or_default es i d e l ∙ sym is) ∙ h

  -- no entry
  pub empty_map : from_sorted {R = R} [] ≡ empty {X = X}
  empty_map =
      empty_of_len (from_sorted {R = R} [])
      (len-entries (from_sorted {R = R} []) ∙ ap length (entries-from_sorted R [] tt))

  -- the entries of a map are those that it was made of
  pub entries_in_order : (es : List (K × X)) → IsTrue (is_sorted R es) → entries (from_sorted {R = R} es) ≡ es
  entries_in_order es h = entries-from_sorted R es (yes h)
