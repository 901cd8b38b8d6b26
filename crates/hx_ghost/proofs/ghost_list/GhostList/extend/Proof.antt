-- The body does nothing. The loan is opened, and closed at the longer list.
use Rattle.hx_ghost.proofs.Steps.{[], ◌∷◌, ◌++◌, refl, proved, id⊢, ftrue, flft, named, vunit, ‵, raw, ◌⊛◌, ◌$◌, ◌∵◌, !, qed, done, move, keep, use1, split, join, fsplit3, feq_i, suffices, frame, group, enter, of_opd, unit_lit, returns, alloc_all, pass_all, free_all, look_at, sets, yes, MutRef, mut_vals, mut_Tells, plain, ShrRef, shr_vals, shr_Tells, RefOf, nothing, opens, closes, Stays, says, stay_dropped, Goes-dropped, stay_ref, Goes-ref, ends_at, a_type, Args, dcons, dnil, inst_fn, param, bounded}
use Rattle.hx_ghost.specs.contracts.ghost_list.GhostList.{the_row}
use Rattle.hx_ghost.specs.contracts.ghost_list.GhostList.extend as f
use Rattle.hx_ghost.proofs.ghost_list.GhostList.extend.Statement.{statement}
use Rattle.hx_ghost.proofs.ghost_list.GhostList.extend.Code as code

pub extend_spec : {M : Type 1} → statement M
extend_spec 𝓤 𝓛 𝓜 𝓡 wired T A laws laws' listed dict met =
    let by = param 1 A in let R = the_row (param 0 T) in let ended = f.ended T A listed dict in let c = f.clauses T A listed dict 𝓛 𝓜.mem 𝓡.returns in
    let layout : Args = bounded (a_type ∷ a_type ∷ []) (T, (A, tt)) (dcons dict dnil) in
    let stayed : Stays ended.signature.params ended.kept = (stay_ref (0 ∷ []) tt (plain (λ _. R)), (stay_dropped _ yes, tt)) in
    proved 𝓛 ended stayed c 𝓜 𝓡 (Goes-ref 𝓛 4 0 tt (plain (λ _. R)), (Goes-dropped 𝓛 4 (RefOf (1 ∷ []) tt (plain (λ _. by)) (λ _. tt)) yes (λ κs x w. refl), tt))
    (f.Key.name layout) (inst_fn layout code.function) (code.unfolded 𝓤 𝓛.H 𝓜 𝓡 wired (T, (A, tt)) dict)
    (λ κs. (mut_vals, (shr_vals, tt))) (λ κs. (mut_Tells (named 0) κs.0 R, (shr_Tells (named 1) κs.1.0 by, tt))) (λ κs qs bounds a g are.
    let self = a.0 in let b = self.ref_ptr.0 in let o = self.ref_ptr.1 in
    let longer : R.Denot = record { of = self.now.of; items = self.now.items ++ listed.listed a.1.0.now } in
    qed 𝓛 (((‵ (flft κs.0 qs.0) ⊛ ‵ (flft κs.1.0 qs.1.0) ⊛ ‵ (flft κs.1.1.0 qs.1.1.0) ⊛ ‵ (flft κs.1.1.1.0 qs.1.1.1.0) ⊛ ‵ ftrue) ⊛ ‵ ((MutRef (named 0) κs.0 R).own_val self (mut_vals self)) ⊛ ‵ ((ShrRef (named 1) κs.1.0 by).own_val a.1.0 (shr_vals a.1.0)) ⊛ ‵ ftrue) ∷ raw ((c κs a).requires g) ∷ []) ∵
    split ! $ split ! $ move ! (2 ∷ []) $ split ! $ keep ! (0 ∷ 2 ∷ 3 ∷ []) $
    -- [self; a token; the other tokens]
    enter ! _ _ _ _ _ $ alloc_all ! (λ l. pass_all ! refl ((tt, tt), ((tt, tt), tt)) $
    fsplit3 ! $ move ! (1 ∷ 2 ∷ 3 ∷ []) $ opens ! tt R b o (λ us.
    sets ! (of_opd ! (unit_lit !)) refl (tt, tt) $
    move ! (1 ∷ []) $ use1 𝓛 (‵ (R.own_val longer us)) (id⊢ 𝓤 _) $ move ! (1 ∷ 0 ∷ []) $ closes ! tt R longer us b o $
    -- [two parts of self; a token; self's first part; the other tokens]
    returns ! (look_at ! 0 refl) $ free_all ! refl $ move ! (3 ∷ []) $
    suffices ! _ (ends_at 𝓛 ended stayed c ((κs, qs, bounds, a, (mut_vals self, (shr_vals a.1.0, tt))), g) vunit tt (longer, (tt, tt)) (tt, (tt, tt))) $ says ! refl $
    group ! 3 $ nothing ! $ nothing ! $ join ! $ move ! (1 ∷ 0 ∷ []) $ join ! $
    move ! (1 ∷ 2 ∷ []) $ join ! $ frame ! $ frame ! $
    feq_i ! _ (vunit ∷ []) _ refl $ done !)))
