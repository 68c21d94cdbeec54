-- `new` makes a value of no bytes, at the empty list.
use Rattle.std.proofs.Common.{[], ◌∷◌, refl}
use seplogic.Ra.Ura.{Ura}
use mir.Syntax.{Fn, Args, a_type}
use mir.Val.{Val, vstruct, vcons, vnil}
use mir.MapTy.{inst_fn}
use base.Logic.{SProp, ent}
use prog.Memory.{Memory}
use prog.Routine.{Routine}
use prog.Wp.{Calls, Loops, WpFn, Tables}
use types.Logic.{Logic}
use contract.Monad.{Fun}
use contract.Running.{tables, tables_of}
use sound.WpLaws.{WpFn-mono}
use types.Kit.{‵, raw, ◌⊛◌, ◌$◌, ◌∵◌, !, qed, keep, move, split, suffices, done}
use types.Run.{no_more, and_then, returns, enter}
use types.Part.{agg}
use types.ByLocal.{alloc_all, pass_all, free_all, look_at, get, sets}
use denote.RattleType.{RattleType, owns}
use denote.Signature.{types_at}
use denote.Param.{param, layouts}
use denote.Shadow.{pure_i}
use denote.Steps.{nothing}
use denote.Triple.Clauses.{Clauses, Ended}
use denote.Triple.Entry.{alive}
use denote.Triple.Spec.{Meets, triple_of}
use denote.Triple.Table.{entered}
use denote.Triple.Walked.{says, walk_of, ends_at, walk_Meets}
use Rattle.device_pair.specs.contracts.snapshots.Snapshots as T
use Rattle.device_pair.specs.contracts.snapshots.Snapshots.new.Key.{name as #it}
use Rattle.device_pair.specs.contracts.snapshots.Snapshots.new as it
use Rattle.device_pair.proofs.snapshots.Snapshots.new.Statement as stated
use Rattle.device_pair.proofs.snapshots.Snapshots.new.Code as code

abbrev v : Val
v = vstruct (vcons (vstruct vnil) vnil)

module _ (A B : RattleType) where
  abbrev args : Args
  args = layouts (a_type ∷ a_type ∷ []) (A, (B, tt))

  abbrev function : Fn
  function = inst_fn args code.function

  abbrev ended : Ended
  ended = it.ended A B

  abbrev row : RattleType
  row = T.the_row (param 0 A) (param 1 B)

  abbrev r : row.Denot
  r = record { of = record {}; taken = [] }

  module _ {M : Type 1} {𝓤 : Ura M} (𝓛 : Logic 𝓤) (at_mem : Memory → SProp 𝓤) (run : Routine → Fun 𝓤) where
    open 𝓛 use {H}

    abbrev held : Clauses 𝓤 ended
    held = it.clauses A B 𝓛 at_mem run

    walks : (C : Calls 𝓤 H) (Λ : Loops 𝓤 H) (z : (walk_of 𝓛 ended tt held).Ghost)
        → ent 𝓤 ((walk_of 𝓛 ended tt held).pre z)
        (WpFn 𝓤 H C Λ function ((walk_of 𝓛 ended tt held).args z) ((walk_of 𝓛 ended tt held).post z))
    walks C Λ z =
        qed 𝓛 ((raw (alive 𝓛 ended.signature z.0.0 z.0.1) ⊛ ‵
        (owns (types_at ended.signature.params z.0.0) z.0.3 z.0.4)) ∷ raw
        ((held z.0.0 z.0.3).requires z.1) ∷ []) ∵
        keep ! (0 ∷ []) $ split ! $ keep ! (0 ∷ []) $
        enter ! C Λ function [] _ $ alloc_all ! (λ l. pass_all ! refl tt $
        sets ! (agg ! (no_more !)) refl (tt, tt) $ sets ! (agg ! (and_then ! (get ! refl) (no_more !))) refl
        (tt, (tt, tt)) $
        returns ! (look_at ! 0 refl) $ free_all ! refl $
        pure_i ! (row.own_val r (v ∷ [])) ((λ vss. (tt, ((λ uss. (tt, tt)), tt))), tt)
        (((vstruct vnil ∷ [], tt), (refl, ((tt, (refl, tt)), tt))), tt) $
        suffices ! _ (ends_at 𝓛 ended tt held z v r tt tt) $ says ! refl $
        nothing ! $ move ! (2 ∷ 0 ∷ 1 ∷ []) $ done !)

    meets : (𝓣 : Tables 𝓤 H) → Meets 𝓛 ended.signature (WpFn 𝓤 H 𝓣.C 𝓣.Λ function) (it.spec A B 𝓛 at_mem run)
    meets 𝓣 =
        walk_Meets 𝓛 ended tt tt held (WpFn 𝓤 H 𝓣.C 𝓣.Λ function) (WpFn-mono 𝓤 H 𝓛.laws 𝓣 function)
        (walks 𝓣.C 𝓣.Λ)

pub new_spec : {M : Type 1} → stated.statement M
unfolding tables_of
new_spec 𝓤 𝓛 𝓜 𝓡 wired A B LA LB =
    let 𝓣 : Tables 𝓤 𝓛.H = tables_of 𝓤 𝓛.H 𝓜 (tables 𝓤 𝓛.H 𝓜 𝓡 𝓡.env) in
    entered 𝓤 𝓛.H (triple_of 𝓛 (ended A B).signature (it.spec A B 𝓛 𝓜.mem 𝓡.returns)) 𝓣.C 𝓣.Λ
    (#it (args A B)) (function A B)
    (code.unfolded 𝓤 𝓛.H 𝓜 𝓡 wired (A, (B, tt))) (meets A B 𝓛 𝓜.mem 𝓡.returns 𝓣)
