-- A page that is lent where it spells a node, as the reading of that node.
use Rattle.std.proofs.Common.{◌≡◌, ◌∙◌, ℕ, List, Bool, true, false, ◌||◌, None, ap, refl, inr, subst, sym}
use Rattle.std.specs.Prelude.{Result, Ok, Err, IfErr, IsErrAnd}
use Rattle.page_file.specs.declared.fault.Fault.{Fault}
use Rattle.page_file.specs.declared.fault.Fault.TheVariants as fault
use Rattle.page_cache.specs.Cache.{touched_of}
use Rattle.page_cache.specs.Calls.{AsksUntil, IsReadAt, RefusesChange, refuses_after}
use Rattle.page_cache.specs.PageSteps.{Edits}
use Rattle.page_cache.specs.declared.cache.PageCache.{PageCache}

module _ {D A : Type 0} {m : _} {S T : Type 0} (old new : PageCache D A m) (n : ℕ) where
  -- the page was not lent, and its fault is handed on
  pub not_read : (f : Fault) (result : Result T Fault) → IsErrAnd result (λ e. e ≡ f)
      → IsReadAt {T = S} old new n (Err f) → IsReadAt old new n result
  not_read f (Ok x) is read = elim is [ ]
  not_read f (Err e) is read = subst (λ (e : Fault). IsReadAt {T = T} old new n (Err e)) (sym is)
      (record {
        asks = read.asks;
        looks = tt;
        refused_looks = read.refused_looks;
        holds = tt;
        used = tt;
        refused_used = read.refused_used;
        damaged = λ honest from below is.
            let same : f ≡ fault.Damaged n = let both = is in cc in
            read.damaged honest from below (ap (λ (e : Fault). Err e) same);
        quiet = read.quiet;
      })

  -- it was lent, and spells a node of another level
  pub no_node : (x : S) → IsReadAt {T = S} old new n (Ok x)
      → IsReadAt {T = T} old new n (Err (fault.Damaged n))
  no_node x read = let a = read.asks in record {
    asks = record {
      gate = a.gate;
      map = a.map;
      capacity = a.capacity;
      looks = a.looks;
      touched = a.touched;
      faults = a.faults;
    };
    looks = tt;
    refused_looks = inr read.looks;
    holds = tt;
    used = tt;
    refused_used = inr (inr read.used);
    damaged = λ honest from below is. read.looks;
    quiet = read.quiet;
  }

or_not : (b : Bool) → (b || false) ≡ b
or_not true = refl
or_not false = refl

-- an edit that was refused has touched no page
pub edit_refused : {D A : Type 0} {m : _} {T : Type 0} {did : List ℕ → T → List ℕ → Type 0}
    (old new : PageCache D A m) (n : ℕ) (f : Fault) → Edits n did old new (Err f) → RefusesChange old new f
edit_refused old new n f edit = record {
  changes = edit.changes;
  map = edit.in_memory.refused;
  touched = edit.in_memory.touched ∙ or_not (touched_of old);
}

-- also after pages were asked for, where its fault is handed on
pub edit_refused_after : {D A : Type 0} {m : _} {S T : Type 0} {did : List ℕ → S → List ℕ → Type 0}
    (old mid new : PageCache D A m) (n : ℕ) (f : Fault) (result : Result T Fault)
    → IsErrAnd result (λ e. e ≡ f) → AsksUntil old mid None → Edits n did mid new (Err f)
    → IfErr result (λ e. RefusesChange old new e)
edit_refused_after old mid new n f (Ok x) is asks edit = tt
edit_refused_after old mid new n f (Err e) is asks edit = subst (λ e. RefusesChange old new e) (sym is)
    (refuses_after old mid new f asks (edit_refused mid new n f edit))

-- an edit that did the one did the other
pub edits_as : {D A : Type 0} {m : _} {T : Type 0} (n : ℕ) (did does : List ℕ → T → List ℕ → Type 0)
    (old new : PageCache D A m) (result : Result T Fault)
    → ((was now : List ℕ) (answer : T) → did was answer now → does was answer now)
    → Edits n did old new result → Edits n does old new result
edits_as n did does old new (Ok x) so edit = record {
  changes = edit.changes;
  answered = let a = edit.answered in (a.0, a.1, so a.0 a.1 x a.2);
  edited = λ h was there. let a = edit.edited h was there in (a.0, a.1, a.2, so was a.0 x a.3);
  live = edit.live;
  others = edit.others;
  sound = edit.sound;
  next = edit.next;
  in_memory = edit.in_memory;
  opens = edit.opens;
  held = edit.held;
  outside = edit.outside;
  faults = edit.faults;
  other_faults = edit.other_faults;
}
edits_as n did does old new (Err f) so edit = record {
  changes = edit.changes;
  answered = tt;
  edited = λ h was there. tt;
  live = edit.live;
  others = edit.others;
  sound = edit.sound;
  next = edit.next;
  in_memory = edit.in_memory;
  opens = edit.opens;
  held = edit.held;
  outside = edit.outside;
  faults = edit.faults;
  other_faults = edit.other_faults;
}
