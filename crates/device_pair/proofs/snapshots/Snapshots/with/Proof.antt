-- `with` makes a value of no bytes, at the list that its clause names.
use Rattle.std.proofs.Common.{List, [], ◌∷◌, ◌++◌, refl}
use seplogic.Ra.Ura.{Ura}
use mir.Syntax.{Fn, Args, a_type}
use mir.Val.{Val, vptr, vstruct, vcons, vnil}
use mir.MapTy.{inst_fn}
use base.Logic.{SProp, ent}
use prog.Memory.{Memory}
use prog.Routine.{Routine}
use prog.Wp.{Calls, Loops, WpFn, Tables}
use types.Logic.{Logic}
use contract.Monad.{Fun}
use contract.Running.{tables, tables_of}
use sound.WpLaws.{WpFn-mono}
use types.Kit.{‵, raw, ◌⊛◌, prop, ◌$◌, ◌∵◌, !, qed, move, keep, drop, split, fsplit, fjoin, feq_l, regoal}
use types.Kit.{suffices, done}
use types.Run.{no_more, and_then, returns, enter}
use types.Part.{agg}
use types.ByLocal.{alloc_all, pass_all, free_all, look_at, get, sets}
use denote.Builtin.{RefOf}
use denote.Exit.{yes}
use denote.RattleType.{RattleType, owns}
use denote.Signature.{Slot, plain, types_at}
use denote.Param.{param, layouts}
use denote.Shadow.{pure_i}
use denote.Steps.{nothing}
use denote.Triple.Clauses.{Clauses, Ended}
use denote.Triple.Entry.{alive}
use denote.Triple.Spec.{Meets, triple_of}
use denote.Triple.Table.{entered}
use denote.Triple.Walked.{says, Stays, stay_dropped, walk_of, ends_at, walk_Meets, Goes-dropped}
use Rattle.device_pair.specs.contracts.snapshots.Snapshots as T
use Rattle.device_pair.specs.contracts.snapshots.Snapshots.with.Key.{name as #it}
use Rattle.device_pair.specs.contracts.snapshots.Snapshots.with as it
use Rattle.device_pair.proofs.snapshots.Snapshots.with.Statement as stated
use Rattle.device_pair.proofs.snapshots.Snapshots.with.Code as code

abbrev v : Val
v = vstruct (vcons (vstruct vnil) vnil)

module _ (A B : RattleType) where
  abbrev args : Args
  args = layouts (a_type ∷ a_type ∷ []) (A, (B, tt))

  abbrev function : Fn
  function = inst_fn args code.function

  abbrev ended : Ended
  ended = it.ended A B

  abbrev row : RattleType
  row = T.the_row (param 0 A) (param 1 B)

  -- the three references, of which nothing is wanted at the end
  abbrev self : Slot 5
  self = RefOf (0 ∷ []) tt (plain (λ _. row)) (λ _. tt)

  abbrev first : Slot 5
  first = RefOf (1 ∷ []) tt (plain (λ _. param 0 A)) (λ _. tt)

  abbrev second : Slot 5
  second = RefOf (2 ∷ []) tt (plain (λ _. param 1 B)) (λ _. tt)

  abbrev stayed : Stays ended.signature.params ended.kept
  stayed = (stay_dropped self yes, (stay_dropped first yes, (stay_dropped second yes, tt)))

  module _ {M : Type 1} {𝓤 : Ura M} (𝓛 : Logic 𝓤) (at_mem : Memory → SProp 𝓤) (run : Routine → Fun 𝓤) where
    open 𝓛 use {H}

    abbrev held : Clauses 𝓤 ended
    held = it.clauses A B 𝓛 at_mem run

    module _ (C : Calls 𝓤 H) (Λ : Loops 𝓤 H) (z : (walk_of 𝓛 ended stayed held).Ghost) where
      abbrev Post : Val → SProp 𝓤
      Post = (walk_of 𝓛 ended stayed held).post z

      abbrev goes : List Val → SProp 𝓤
      goes us = WpFn 𝓤 H C Λ function us Post

      walks : ent 𝓤 ((walk_of 𝓛 ended stayed held).pre z)
          (WpFn 𝓤 H C Λ function ((walk_of 𝓛 ended stayed held).args z) Post)
      walks =
          let a = z.0.3 in
          let at = z.0.4 in
          let p = vptr a.0.ref_ptr.0 a.0.ref_ptr.1 in
          let q = vptr a.1.0.ref_ptr.0 a.1.0.ref_ptr.1 in
          let s = vptr a.1.1.0.ref_ptr.0 a.1.1.0.ref_ptr.1 in
          let r : row.Denot = record { of = record {}; taken = (a.1.0.now, a.1.1.0.now) ∷ a.0.now.taken } in
          qed 𝓛 ((raw (alive 𝓛 ended.signature z.0.0 z.0.1) ⊛ ‵
          (owns (types_at ended.signature.params z.0.0) a at)) ∷ raw ((held z.0.0 a).requires z.1) ∷ []) ∵
          keep ! (0 ∷ []) $ split ! $ move ! (1 ∷ []) $
          fsplit ! $ fsplit ! $ feq_l !
          (λ e. drop ! $ fsplit ! $ fsplit ! $ feq_l !
          (λ e'. drop ! $ fsplit ! $ fsplit ! $ feq_l ! (λ e''. drop ! $ drop ! $
          regoal ! (λ (us : List Val). prop (goes (us ++ (at.1.0 ++ (at.1.1.0 ++ []))))) e refl $
          regoal ! (λ (us : List Val). prop (goes ((p ∷ []) ++ (us ++ (at.1.1.0 ++ []))))) e' refl $
          regoal ! (λ (us : List Val). prop (goes ((p ∷ []) ++ ((q ∷ []) ++ (us ++ []))))) e'' refl $
          enter ! C Λ function (p ∷ q ∷ s ∷ []) Post $ alloc_all !
          (λ l. pass_all ! refl ((tt, tt), ((tt, tt), ((tt, tt), tt))) $
          sets ! (agg ! (no_more !)) refl (tt, tt) $ sets ! (agg ! (and_then ! (get ! refl) (no_more !)))
          refl (tt, (tt, tt)) $
          returns ! (look_at ! 0 refl) $ free_all ! refl $
          pure_i ! (row.own_val r (v ∷ [])) ((λ vss. (tt, ((λ uss. (tt, tt)), tt))), tt)
          (((vstruct vnil ∷ [], tt), (refl, ((tt, (refl, tt)), tt))), tt) $
          suffices ! _ (ends_at 𝓛 ended stayed held z v r (tt, (tt, (tt, tt))) (tt, (tt, (tt, tt)))) $ says !
          refl $
          nothing ! $ nothing ! $ fjoin ! $ nothing ! $ fjoin ! $ nothing ! $ fjoin ! $ move !
          (2 ∷ 0 ∷ 1 ∷ []) $ done !))))

    meets : (𝓣 : Tables 𝓤 H) → Meets 𝓛 ended.signature (WpFn 𝓤 H 𝓣.C 𝓣.Λ function) (it.spec A B 𝓛 at_mem run)
    meets 𝓣 =
        walk_Meets 𝓛 ended stayed (
          Goes-dropped 𝓛 5 self yes (λ κs x f. refl),
          (Goes-dropped 𝓛 5 first yes (λ κs x f. refl), (Goes-dropped 𝓛 5 second yes (λ κs x f. refl), tt)),
        )
        held (WpFn 𝓤 H 𝓣.C 𝓣.Λ function) (WpFn-mono 𝓤 H 𝓛.laws 𝓣 function) (walks 𝓣.C 𝓣.Λ)

pub with_spec : {M : Type 1} → stated.statement M
unfolding tables_of
with_spec 𝓤 𝓛 𝓜 𝓡 wired A B LA LB =
    let 𝓣 : Tables 𝓤 𝓛.H = tables_of 𝓤 𝓛.H 𝓜 (tables 𝓤 𝓛.H 𝓜 𝓡 𝓡.env) in
    entered 𝓤 𝓛.H (triple_of 𝓛 (ended A B).signature (it.spec A B 𝓛 𝓜.mem 𝓡.returns)) 𝓣.C 𝓣.Λ
    (#it (args A B)) (function A B)
    (code.unfolded 𝓤 𝓛.H 𝓜 𝓡 wired (A, (B, tt))) (meets A B 𝓛 𝓜.mem 𝓡.returns 𝓣)
