-- `held` lends the value that the handle owns, and the handle has what was last written to it.
use Rattle.std.proofs.Common.{◌≡◌, ℕ, List, [], ◌∷◌, refl, sym, ap, ◌∙◌}
use Rattle.std.proofs.raw_atomic.Walks.{proved}
use Rattle.std.proofs.VecSteps.Shapes.{after}
use seplogic.Ra.Ura.{Ura}
use base.Fraction.{full_share}
use base.Logic.{ent, sep}
use base.Fml.{GName, Fml, ftrue, fsep, flft}
use mir.Syntax.{named}
use mir.Val.{Val, vptr}
use contract.Running.{tables}
use types.Logic.{Logic, sem}
use types.Kit.{‵, ◌⊛◌, some, later, at_ret, ◌$◌, ◌∵◌, !, qed, move, keep, use1, split, join, pick, fsplit}
use types.Kit.{fsplit3, fjoin, fpack, await, group, rewrite, suffices, frame, done}
use types.Part.{whole, sub, look_in}
use types.Run.{stop, fld, load, of_opd, first, blocks, exec, returns, enter, addr}
use types.ByLocal.{alloc_all, pass_all, free_all, look_at, get, through, sets, sets_last, env}
use denote.Exit.{no}
use denote.Follow.{follows, lends_Part}
use denote.Laws.{shows}
use denote.Memory.{part_at, mem, cell_at, part_of}
use denote.RawPtr.{Ptr, block_ptr, lies_at, in_a_block}
use denote.Ref.{MutRef, mut_vals, mut_Tells}
use denote.Signature.{plain, mut_ref_to}
use denote.Steps.{nothing, opens, peeks}
use denote.Struct.Struct.{Struct}
use denote.Struct.Owning.{shape}
use base.Logic.{id⊢}
use denote.Triple.Walked.{says, Stays, stay_dropped, walk_of, ends_at, Goes-spent_ref}
use Rattle.rstore_c.specs.contracts.handle.Handle.held as f
use Rattle.rstore_c.specs.contracts.handle.Handle.{the_row as R, the_type}
use Rattle.rstore_c.specs.contracts.held.Held.{the_row as S}
use Rattle.rstore_c.proofs.handle.Handle.held.Statement.{statement}
use Rattle.rstore_c.proofs.handle.Handle.held.Code as code
use Rattle.rstore_c.proofs.handle.Handle.TheLaws.{lowers}

abbrev stayed : Stays f.ended.signature.params f.ended.kept
stayed = (stay_dropped (mut_ref_to (0 ∷ []) tt (plain (λ _. R))) no, tt)

abbrev with : R.Denot → S.Denot → R.Denot
with h w = record h { value = w }

-- all of the handle but the value, in memory at rb and ro
abbrev Rest : R.Denot → List Val → ℕ → ℕ → Fml
Rest h us rb ro = fsep ((Struct (shape the_type)).own_val (h.at, tt) us) (cell_at full_share R.mir us rb ro)

back : {M : Type 1} {𝓤 : Ura M} (𝓛 : Logic 𝓤) (h : R.Denot) (us : List Val) (rb ro b o : ℕ)
    → h.at ≡ block_ptr b o → (w : S.Denot)
    → ent 𝓤 (sep 𝓤 (sem 𝓛 ((mem S).own_at w b o)) (sem 𝓛 (Rest h us rb ro)))
    (sem 𝓛 ((mem R).own_at (with h w) rb ro))
unfolding part_of
back 𝓛 h us rb ro b o e w =
    qed 𝓛 (‵ (part_at S full_share w b o) ∷ ‵ (Rest h us rb ro) ∷ []) ∵
    rewrite ! 0 (λ (p : Ptr). ‵ (lies_at S full_share p w)) (sym e) refl $
    move ! (1 ∷ []) $ fsplit ! $ move ! (0 ∷ 2 ∷ []) $ fjoin ! $ move ! (1 ∷ 0 ∷ []) $ fjoin ! $
    fpack ! (List Val) (λ vs. fsep (cell_at full_share R.mir vs rb ro) (R.own_val (with h w) vs)) us $ done !

pub held_spec : {M : Type 1} → statement M
held_spec 𝓤 𝓛 𝓜 𝓡 wired =
    let c = f.clauses 𝓛 𝓜.mem 𝓡.returns in let W = walk_of 𝓛 f.ended stayed c in
    let 𝓣 = tables 𝓤 𝓛.H 𝓜 𝓡 𝓡.env in
    proved 𝓛 f.ended stayed c 𝓜 𝓡 (Goes-spent_ref 𝓛 1 (0 ∷ []) tt (plain (λ _. R)), tt)
    f.Key.name code.function (code.unfolded 𝓤 𝓛.H 𝓜 𝓡 wired)
    (λ κs. (mut_vals, tt)) (λ κs. (mut_Tells (named 0) κs.0 R, tt)) (λ κs qs bounds a _ are.
    let κ = κs.0 in let q = qs.0 in let rb = a.0.ref_ptr.0 in let ro = a.0.ref_ptr.1 in
    let γ = a.0.ghost_name in let h = a.0.now in let vs = mut_vals a.0 in
    let y : W.Ghost = ((κs, qs, bounds, a, (vs, tt)), tt) in
    qed 𝓛 (((‵ (flft κ q) ⊛ ‵ ftrue) ⊛ ‵ ((MutRef (named 0) κ R).own_val a.0 vs) ⊛ ‵ ftrue) ∷ ‵ ftrue ∷ []) ∵
    split ! $ split ! $ move ! (2 ∷ []) $ split ! $ keep ! (0 ∷ 2 ∷ []) $
    enter ! _ _ _ _ _ $ alloc_all ! (λ l. pass_all ! refl ((tt, tt), tt) $
    fsplit3 ! $ move ! (1 ∷ 2 ∷ 3 ∷ []) $ opens ! tt R rb ro (λ us.
    move ! (1 ∷ []) $ peeks ! R _ (shows 𝓛 R) h us (λ is. fsplit ! $ move ! (1 ∷ []) $
    in_a_block ! h.at (λ p. lies_at S full_share p h.value) (id⊢ 𝓤 _) (λ b o e.
    let word = lowers.val_is h us is ∙ ap (λ (p : Ptr). lowers.lowered (record h { at = p }) ∷ []) e in
    let Cell = λ (ws : List Val). ‵ (cell_at full_share R.mir ws rb ro) in
    rewrite ! 2 Cell word refl $
    -- [the value; what the fields own; the struct's cell; the open borrow, in three entries]
    first ! $ blocks ! $
    sets ! (of_opd ! (load ! (through ! refl (fld ! refl (stop !))) (look_in ! 2 (sub ! 0 refl (whole !)))))
    refl (tt, tt) $
    sets ! (of_opd ! (get ! refl)) refl (tt, tt) $
    sets_last ! (addr ! (through ! refl (stop !))) refl (tt, tt) $
    exec ! 𝓣.C 𝓣.Λ (env code.Mir.locals l) (after 1 (code.function).body) (at_ret _ (W.post y)) $
    sets ! (of_opd ! (get ! refl)) refl (tt, tt) $
    rewrite ! 2 Cell (sym word) refl $
    move ! (1 ∷ 2 ∷ []) $ fjoin ! $ move ! (2 ∷ 3 ∷ 4 ∷ 1 ∷ 0 ∷ []) $ group ! 5 $
    use1 𝓛 (later
    (some (λ (γ' : GName). ‵
    ((MutRef (named 0) κ S).own_val (record { ref_ptr = (b, o); ghost_name = γ'; now = h.value })
    (vptr b o ∷ [])) ⊛ ‵ (flft κ q) ⊛ ‵ (follows R S γ γ' (with h)))))
    (lends_Part 𝓛 R S (with h) (named 0) κ q rb ro b o γ (sem 𝓛 (Rest h us rb ro)) (back 𝓛 h us rb ro b o e)
    (R.coded.code h) (R.coded.code h) h.value) $ await ! tt $ pick ! (λ γ'.
    returns ! (look_at ! 0 refl) $ free_all ! refl $ keep ! (0 ∷ []) $ split ! $ move ! (1 ∷ []) $ split ! $
    -- [the token; the way back; the result]
    suffices ! _
    (ends_at 𝓛 f.ended stayed c y (vptr b o)
    (record { ref_ptr = (b, o); ghost_name = γ'; now = h.value }) (tt, tt) (tt, tt)) $
    move ! (2 ∷ 0 ∷ 1 ∷ []) $ nothing ! $ nothing ! $ fjoin ! $ join ! $ nothing ! $ move ! (2 ∷ 0 ∷ []) $
    join ! $ join ! $ frame ! $ says ! refl $ done !))))))
