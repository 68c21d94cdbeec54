-- An insertion that got no memory for what waits, before any call.
use Rattle.std.proofs.Common.{rules, ◌≡◌, ℕ, Result, IsErrAnd, inl}
use Rattle.page_file.specs.declared.fault.Fault.{Fault}
use Rattle.page_file.specs.declared.fault.Fault.TheVariants as fault
use Rattle.page_cache.specs.declared.cache.PageCache.{PageCache}
use Rattle.tree_node.specs.declared.node.Entry.{Entry}
use Rattle.tree_node.specs.declared.node.Root.{Root}
use Rattle.node_page.specs.Faults.{IsChangeFault, IsNoDamage, NamesInRange}
use Rattle.node_page.proofs.NodeLemmas.{at_error}
use Rattle.reinsert.specs.Steps.{Inserts}
use Rattle.reinsert.proofs.FaultLemmas.{memory_at_once, no_answer, no_success}

pub no_room_inserts : {D : ℕ} {B A : Type 0} {m : _} {most : ℕ} {from : Root} {entry : Entry D} {level : ℕ}
    (cache : PageCache B A m) (f : Fault) (result : Result Root Fault) → IsErrAnd result (λ e. e ≡ f)
    → f ≡ fault.Memory → Inserts most from entry level cache cache result
no_room_inserts {D} {B} {A} {m} {most} {from} cache f result is memory = record {
  changes = memory_at_once cache f result is memory;
  grows = search rules;
  root = no_answer result f _ is;
  inserted = λ h t branch elsewhere can. no_answer result f _ is;
  faults = λ h t branch elsewhere can shape boxes entry. at_error result f (IsNoDamage cache) is
      (inl (inl memory));
  damage = λ h none.
      at_error result f
      _ is
      (λ n (damaged : f ≡ fault.Damaged n). absurd (cc));
  sound = λ h. no_success result f _ is;
  number = λ h.
      at_error result f NamesInRange is (λ n (damaged : f ≡ fault.Damaged n). absurd (cc));
  other_faults = at_error result f (IsChangeFault cache) is (inl (inl memory));
}
