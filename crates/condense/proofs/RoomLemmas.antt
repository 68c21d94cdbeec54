-- A removal that got no memory for what it keeps and for what waits, before any call.
use Rattle.std.proofs.Common.{rules, ◌≡◌, ℕ, Result, IsErrAnd, inl, refl}
use Rattle.std.specs.Prelude.{◌⊎◌}
use Rattle.box_math.specs.Objects.{Object}
use Rattle.page_file.specs.Fault.{IsOfDevice}
use Rattle.page_file.specs.declared.fault.Fault.{Fault}
use Rattle.page_file.specs.declared.fault.Fault.TheVariants as fault
use Rattle.page_cache.specs.declared.cache.PageCache.{PageCache}
use Rattle.tree_node.specs.declared.node.Root.{Root}
use Rattle.node_page.specs.Faults.{IsChangeFault, IsNoDamage, NamesInRange}
use Rattle.node_page.proofs.NodeLemmas.{at_error}
use Rattle.reinsert.proofs.FaultLemmas.{memory_at_once, no_answer}
use Rattle.condense.specs.Steps.{Removes}
use Rattle.condense.proofs.DamageLemmas.{device_names_none}
use Rattle.condense.proofs.RemoveLemmas.{refused_so}

pub no_room_removes : {B A : Type 0} {m : _} {dims most : ℕ} {from : Root} {id : ℕ} {object : Object}
    (cache : PageCache B A m) (f : Fault) (result : Result Root Fault) → IsErrAnd result (λ e. e ≡ f)
    → f ≡ fault.Memory → Removes dims most from id object cache cache result
no_room_removes {B} {A} {m} {dims} {most} {from} cache f result is memory = record {
  changes = memory_at_once cache f result is memory;
  grows = search rules;
  root = no_answer result f _ is;
  removed = λ h t elsewhere can. no_answer result f _ is;
  shape = λ h t elsewhere can shape boxes. no_answer result f _ is;
  absent = λ h t elsewhere can lacks. (
    refl,
    refused_so result f (λ e. IsOfDevice e ⊎ (e ≡ fault.Damaged from.page)) is (inl (inl memory)),
  );
  faults = λ h t elsewhere can shape boxes has. at_error result f (IsNoDamage cache) is (inl (inl memory));
  damage = λ h none.
      at_error result f
      _ is
      (λ n damaged. absurd (device_names_none f n (inl memory) damaged));
  number = λ h.
      at_error result f NamesInRange is (λ n damaged. absurd (device_names_none f n (inl memory) damaged));
  other_faults = at_error result f (IsChangeFault cache) is (inl (inl memory));
}
