-- `put` takes the box apart, and keeps its pointer.
use Rattle.std.proofs.Common.{◌≡◌, List, [], ◌∷◌, ◌++◌, refl, sym, ap, subst}
use Rattle.std.specs.Prelude.{None, Some}
use mir.Syntax.{named}
use mir.Val.{Val, vunit}
use base.Fraction.{full_share}
use base.Logic.{SProp, ent, id⊢, emp}
use base.Fml.{flft, ftrue}
use prog.Wp.{WpFn}
use types.Kit.{‵, raw, ◌⊛◌, some, later, ◌$◌, ◌∵◌, !, qed, by, move, keep, drop, split, join, fsplit, fsplit3, fjoin, fpack, pick, use0, use1, await, rewrite, feq_i, feq_l, suffices, group}
use types.Run.{stop, fld, of_opd, unit_lit, no_more, and_then, assigns, returns, enter}
use types.Part.{sub, whole, store_in}
use types.ByLocal.{alloc_all, pass_all, free_all, look_at, get, through, sets, lands_as}
use contract.Monad.{fact, fact_i}
use contract.BorrowLft.{◌⊑◌, ⊑_static}
use contract.Running.{tables}
use denote.Exit.{yes}
use denote.RattleType.{owns, Valss}
use denote.Struct.Owning.{shape}
use denote.Struct.Struct.{within}
use denote.Laws.{shows}
use denote.Memory.{cell_at}
use denote.Builtin.{RawPtr}
use denote.RawPtr.{Ptr, ptr_val, rawptr_Lawful}
use denote.Param.{layout}
use denote.Ref.{mut_vals, mut_Tells}
use denote.Signature.{plain, types_at}
use denote.Steps.{nothing, only, opens, closes, peeks, heard}
use denote.Triple.Clauses.{Lasts, lasts}
use denote.Triple.Spec.{triple_of}
use denote.Triple.Call.{calls_at}
use denote.Triple.Table.{framed}
use denote.Triple.Walked.{Stays, stay_dropped, stay_ref, walk_of, Goes-dropped, Goes-ref}
use Rattle.std.proofs.cell.Inside.{one}
use Rattle.std.proofs.raw_atomic.Walks.{proved_at, leaves}
use Rattle.std.specs.Box.Ownership.{box_owns}
use Rattle.std.specs.contracts.impls.GlobalAllocator.TheImpl.{ghosts, dict}
use Rattle.std.proofs.impls.GlobalAllocator.TheImpl.Met.{passed}
use Rattle.std.specs.contracts.boxed.Box.into_raw as callee
use Rattle.std.proofs.boxed.Box.into_raw.Met.{met}
use Rattle.beas_c.specs.Seats.{may_free}
use Rattle.beas_c.specs.contracts.held.Held as held_type
use Rattle.beas_c.specs.contracts.seat.Seat.{the_row as R, the_type}
use Rattle.beas_c.proofs.seat.Seat.TheLaws.{lowers}
use Rattle.beas_c.proofs.Boxed.{Boxed, T, T_laws, T_drop, T_glue, A, A_laws, A_drop, A_glue, Boxed_lawful}
use Rattle.beas_c.specs.contracts.seat.Seat.put as f
use Rattle.beas_c.proofs.seat.Seat.put.Statement.{statement}
use Rattle.beas_c.proofs.seat.Seat.put.Code as code

pub put_spec : {M : Type 1} → statement M
put_spec 𝓤 𝓛 𝓜 𝓡 wired =
    let H = 𝓛.H in let 𝓣 = tables 𝓤 H 𝓜 𝓡 𝓡.env in let En = f.ended in let c = f.clauses 𝓛 𝓜.mem 𝓡.returns in
    let hs : Stays En.signature.params En.kept = (stay_ref (0 ∷ []) tt (plain (λ _. R)), (stay_dropped (plain (λ _. Boxed)) yes, tt)) in
    proved_at 𝓛 En hs c 𝓜 𝓡 (Goes-ref 𝓛 1 0 tt (plain (λ _. R)), (Goes-dropped 𝓛 1 (plain (λ _. Boxed)) yes (λ κs x w. refl), tt))
    f.Key.name code.function (code.unfolded 𝓤 H 𝓜 𝓡 wired) (λ y are.
    let κs = y.0.0 in let qs = y.0.1 in let a = y.0.3 in let b = a.0.ref_ptr.0 in let o = a.0.ref_ptr.1 in let h = a.0.now in let held = a.1.0 in
    let Post : Val → SProp 𝓤 = (walk_of 𝓛 En hs c).post y in
    let self_word = mut_Tells (named 0) κs.0 R a.0 y.0.4.0 are.0 in let box_word = one (layout Boxed) y.0.4.1.0 ((Boxed_lawful 𝓛).typed held y.0.4.1.0 are.1.0) in let w : Val = box_word.0 in let good = box_word.2 in
    qed 𝓛 (((‵ (flft κs.0 qs.0) ⊛ ‵ ftrue) ⊛ ‵ (owns (types_at En.signature.params κs) a y.0.4)) ∷ raw (fact 𝓤 (h.value ≡ None)) ∷ []) ∵
    move ! (1 ∷ []) $ heard ! (h.value ≡ None) (λ empty. split ! $ split ! $ move ! (2 ∷ []) $ fsplit3 ! $ keep ! (0 ∷ 1 ∷ 3 ∷ []) $
    let Run : List Val → List Val → SProp 𝓤 = λ ws vs. WpFn 𝓤 H 𝓣.C 𝓣.Λ code.function (ws ++ (vs ++ [])) Post in
    suffices ! (Run (mut_vals a.0) (w ∷ [])) (subst (λ (ws : List Val). ent 𝓤 (Run (mut_vals a.0) (w ∷ [])) (Run ws y.0.4.1.0)) (sym self_word) (subst (λ (vs : List Val). ent 𝓤 (Run (mut_vals a.0) (w ∷ [])) (Run (mut_vals a.0) vs)) (sym box_word.1) (id⊢ 𝓤 _))) $
    rewrite ! 1 (λ (vs : List Val). ‵ (Boxed.own_val held vs)) box_word.1 refl $
    enter ! _ _ _ _ _ $ alloc_all ! (λ l. pass_all ! refl ((tt, tt), (good, tt)) $
    -- [the reference; the box; the token]
    sets ! (of_opd ! (get ! refl)) refl good $
    -- let at = Box::into_raw(held)
    let k = triple_of 𝓛 (callee.signature T A ghosts dict A_drop T_drop) (callee.spec T A ghosts dict A_drop T_drop 𝓛 𝓜.mem 𝓡.returns) in let Ended = callee.ended T A ghosts dict A_drop T_drop in
    let asked : k.Ghost = ((([], ([], tt)), (full_share, (full_share, tt)), tt, (held, tt), (w ∷ [], tt)), tt) in
    nothing ! $ move ! (2 ∷ 0 ∷ []) $ join ! $
    nothing ! $ use0 𝓛 (raw (fact 𝓤 ([] ⊑ A.lives))) (fact_i 𝓤 _ (emp 𝓤) (⊑_static [])) $ join ! $ use0 𝓛 (raw (fact 𝓤 ([] ⊑ T.lives))) (fact_i 𝓤 _ (emp 𝓤) (⊑_static [])) $ join ! $
    nothing ! $ use0 𝓛 (‵ (flft [] full_share)) (𝓛.lfts.lft-nil full_share) $ join ! $ use0 𝓛 (‵ (flft [] full_share)) (𝓛.lfts.lft-nil full_share) $ join ! $
    move ! (0 ∷ 2 ∷ []) $ join ! $ join ! $ use1 𝓛 (raw (k.pre asked)) (id⊢ 𝓤 _) $
    calls_at ! (framed 𝓤 H 𝓜 𝓣) k (met 𝓤 𝓛 𝓜 𝓡 (code.calls-std_alloc::boxed::Box::into_raw 𝓡.env wired) T A T_laws A_laws ghosts dict A_drop T_drop
    (passed 𝓡.env (code.calls-std_heap::GlobalAllocator::allocate 𝓡.env wired) (code.calls-std_heap::GlobalAllocator::deallocate 𝓡.env wired) (code.calls-std_heap::GlobalAllocator::grow 𝓡.env wired) (code.calls-std_heap::GlobalAllocator::shrink 𝓡.env wired) _ 𝓤 𝓛 𝓜 𝓡)
    (A_glue 𝓤 𝓛 𝓜 𝓡 (code.calls-beas_c::Destruct++none::drop 𝓡.env wired)) (T_glue 𝓤 𝓛 𝓜 𝓡 (code.calls-beas_c::beas_c++held++Held+Destruct::drop 𝓡.env wired))) asked (and_then ! (get ! refl) (no_more !)) (λ u.
    use1 𝓛 (later (some (λ (r : Ptr). ((‵ (flft [] full_share) ⊛ ‵ (flft [] full_share) ⊛ ‵ ftrue) ⊛ ‵ (RawPtr.own_val r (u ∷ [])))
    ⊛ some (λ (ls : Lasts Ended asked.0.0 asked.0.3). ‵ (lasts Ended asked.0.0 asked.0.3 ls) ⊛ ‵ (box_owns may_free held_type.the_row r held.value))))) (id⊢ 𝓤 (k.post asked u)) $
    await ! tt $ pick ! (λ r. split ! $ move ! (1 ∷ []) $ pick ! (λ _. split ! $ drop ! $ move ! (1 ∷ []) $ split ! $ drop ! $ feq_l ! (λ is_at.
    let at_good = ((rawptr_Lawful 𝓛).typed r _ refl).0 in
    lands_as ! (ap only is_at) refl at_good $ sets ! (of_opd ! (get ! refl)) refl at_good $
    -- [the box's memory; the reference; the token]
    move ! (1 ∷ []) $ fsplit3 ! $ move ! (1 ∷ 2 ∷ 4 ∷ []) $ opens ! tt R b o (λ us. move ! (1 ∷ []) $ peeks ! R _ (shows 𝓛 R) h us (λ is. fsplit ! $ move ! (1 ∷ []) $ drop ! $
    let Cell = λ (ws : List Val). ‵ (cell_at full_share R.mir ws b o) in rewrite ! 1 Cell (lowers.val_is h us is) refl $
    -- [what the fields own; the seat's cell; the open borrow, in three entries; the rest of the reference; the box's memory]
    assigns ! (of_opd ! (get ! refl)) (through ! refl (fld ! refl (stop !))) (store_in ! 1 (sub ! 0 refl (whole !)) at_good) $
    sets ! (of_opd ! (unit_lit !)) refl (tt, tt) $
    let h' = record h { at = r; value = Some held.value } in let new_word = lowers.lowered h' in
    nothing ! $ feq_i ! (List Val) (ptr_val r ∷ []) (ptr_val r ∷ []) refl $ fjoin ! $ feq_i ! (List Val) (new_word ∷ []) (new_word ∷ []) refl $ fjoin ! $
    fpack ! (Valss (RawPtr ∷ [])) (within (shape the_type) (r, tt) (new_word ∷ [])) (ptr_val r ∷ [], tt) $
    move ! (0 ∷ 7 ∷ []) $ fjoin ! $ move ! (2 ∷ 0 ∷ 3 ∷ 4 ∷ 5 ∷ []) $ closes ! tt R h' (new_word ∷ []) b o $
    returns ! (look_at ! 0 refl) $ free_all ! refl $
    -- [the open borrow, closed, and the token; what the fields owned; the rest of the reference]
    move ! (4 ∷ []) $ group ! 3 $ nothing ! $ nothing ! $ join ! $ move ! (1 ∷ 0 ∷ []) $ join ! $ nothing ! $ move ! (2 ∷ 0 ∷ []) $ join ! $
    use0 𝓛 (raw (fact 𝓤 (h'.value ≡ Some held.value))) (fact_i 𝓤 _ (emp 𝓤) refl) $ feq_i ! (List Val) (vunit ∷ []) (vunit ∷ []) refl $
    keep ! (2 ∷ 3 ∷ 0 ∷ 1 ∷ []) $ by ! (leaves 𝓛 En hs c y vunit tt (h', (tt, tt)) (tt, (tt, tt))))))))))))
