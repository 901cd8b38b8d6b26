-- A value of no bytes, at the empty list.
use Rattle.hx_ghost.proofs.Steps.{[], ◌∷◌, refl, proved, ftrue, Val, vstruct, vcons, vnil, ‵, raw, ◌⊛◌, ◌$◌, ◌∵◌, !, qed, done, move, keep, split, join, suffices, agg, enter, no_more, and_then, returns, alloc_all, pass_all, free_all, look_at, get, sets, pure_i, nothing, alive, says, ends_at, a_type, Args, inst_fn, param, layouts}
use Rattle.hx_ghost.specs.contracts.ghost_list.GhostList.{the_row}
use Rattle.hx_ghost.specs.contracts.ghost_list.GhostList.new as f
use Rattle.hx_ghost.proofs.ghost_list.GhostList.new.Statement.{statement}
use Rattle.hx_ghost.proofs.ghost_list.GhostList.new.Code as code

abbrev stored : Val
stored = vstruct (vcons (vstruct vnil) vnil)

pub new_spec : {M : Type 1} → statement M
new_spec 𝓤 𝓛 𝓜 𝓡 wired T laws =
    let R = the_row (param 0 T) in let ended = f.ended T in let c = f.clauses T 𝓛 𝓜.mem 𝓡.returns in
    let layout : Args = layouts (a_type ∷ []) (T, tt) in
    let empty : R.Denot = record { of = record {}; items = [] } in
    proved 𝓛 ended tt c 𝓜 𝓡 tt (f.Key.name layout) (inst_fn layout code.function) (code.unfolded 𝓤 𝓛.H 𝓜 𝓡 wired (T, tt)) (λ κs. tt) (λ κs. tt) (λ κs qs bounds a g are.
    qed 𝓛 ((raw (alive 𝓛 (f.signature T) κs qs) ⊛ ‵ ftrue) ∷ raw ((c κs a).requires g) ∷ []) ∵ split ! $ keep ! (0 ∷ []) $
    enter ! _ _ _ _ _ $ alloc_all ! (λ l. pass_all ! refl tt $
    sets ! (agg ! (no_more !)) refl (tt, tt) $
    sets ! (agg ! (and_then ! (get ! refl) (no_more !))) refl (tt, (tt, tt)) $
    returns ! (look_at ! 0 refl) $ free_all ! refl $
    pure_i ! (R.own_val empty (stored ∷ [])) ((λ vss. (tt, ((λ uss. (tt, tt)), tt))), tt) (((vstruct vnil ∷ [], tt), (refl, ((tt, (refl, tt)), tt))), tt) $
    suffices ! _ (ends_at 𝓛 ended tt c ((κs, qs, bounds, a, tt), g) stored empty tt tt) $ says ! refl $
    nothing ! $ join ! $ move ! (1 ∷ 0 ∷ []) $ done !))
