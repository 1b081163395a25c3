-- `take` reads the pointer, and makes the box again.
use Rattle.std.proofs.Common.{◌≡◌, List, [], ◌∷◌, refl, sym, ap, ◌∙◌}
use Rattle.std.specs.Prelude.{Option, None, Some, IsSome}
use mir.Syntax.{named}
use mir.Val.{Val}
use base.Fraction.{full_share}
use base.Logic.{SProp, id⊢, emp}
use base.Fml.{ftrue, flft}
use types.Kit.{‵, raw, ◌⊛◌, some, later, at_ret, ◌$◌, ◌∵◌, !, qed, by, move, keep, drop, split, split3, join, fsplit, fsplit3, fjoin, pick, use0, use1, await, rewrite, feq_i, group}
use types.Run.{stop, fld, load, of_opd, no_more, and_then, first, blocks, exec, returns, enter}
use types.ByLocal.{alloc_all, pass_all, free_all, look_at, get, through, sets, lands_last, env}
use types.Part.{sub, whole, look_in}
use contract.Monad.{fact, fact_i}
use contract.BorrowLft.{◌⊑◌, ⊑_static}
use contract.Running.{tables}
use denote.Exit.{yes}
use denote.Laws.{Is, shows}
use denote.Memory.{cell_at}
use denote.RawPtr.{ptr_val, rawptr_Lawful}
use denote.Ref.{MutRef, mut_vals, mut_Tells}
use denote.Signature.{plain}
use denote.Steps.{nothing, opens, closes, peeks, heard}
use denote.Triple.Clauses.{Lasts, lasts}
use denote.Triple.Spec.{triple_of}
use denote.Triple.Call.{calls_at_last}
use denote.Triple.Table.{framed}
use denote.Triple.Walked.{Stays, stay_dropped, stay_ref, walk_of, Goes-dropped, Goes-ref}
use Rattle.std.proofs.VecSteps.Shapes.{after}
use Rattle.std.proofs.Handle.{heap_val, heap_Tells}
use Rattle.std.proofs.raw_atomic.Walks.{proved, leaves}
use Rattle.std.specs.contracts.alloc.Global as heap
use Rattle.std.specs.contracts.impls.GlobalAllocator.TheImpl.{ghosts, dict}
use Rattle.std.proofs.impls.GlobalAllocator.TheImpl.Met.{passed}
use Rattle.std.specs.contracts.boxed.Box.from_raw as callee
use Rattle.std.proofs.boxed.Box.from_raw.Met.{met}
use Rattle.beas_c.specs.contracts.seat.Seat.{the_row as R}
use Rattle.beas_c.proofs.seat.Seat.TheLaws.{lowers}
use Rattle.beas_c.proofs.Boxed.{Boxed, T, T_laws, A, A_laws, A_drop, A_glue, Boxed_lawful, there}
use Rattle.beas_c.specs.Seats.{seat_owns}
use Rattle.beas_c.specs.declared.held.Held.{Held}
use Rattle.beas_c.specs.contracts.seat.Seat.take as f
use Rattle.beas_c.proofs.seat.Seat.take.Statement.{statement}
use Rattle.beas_c.proofs.seat.Seat.take.Code as code

abbrev G : denote.RattleType.RattleType
G = heap.the_row

pub take_spec : {M : Type 1} → statement M
take_spec 𝓤 𝓛 𝓜 𝓡 wired =
    let H = 𝓛.H in let 𝓣 = tables 𝓤 H 𝓜 𝓡 𝓡.env in let En = f.ended in let c = f.clauses 𝓛 𝓜.mem 𝓡.returns in
    let hs : Stays En.signature.params En.kept = (stay_ref (0 ∷ []) tt (plain (λ _. R)), (stay_dropped (plain (λ _. G)) yes, tt)) in
    proved 𝓛 En hs c 𝓜 𝓡 (Goes-ref 𝓛 1 0 tt (plain (λ _. R)), (Goes-dropped 𝓛 1 (plain (λ _. G)) yes (λ κs x w. refl), tt))
    f.Key.name code.function (code.unfolded 𝓤 H 𝓜 𝓡 wired)
    (λ κs. (mut_vals, ((λ _. heap_val ∷ []), tt))) (λ κs. (mut_Tells (named 0) κs.0 R, (heap_Tells, tt))) (λ κs qs bounds a gh are.
    let b = a.0.ref_ptr.0 in let o = a.0.ref_ptr.1 in let h = a.0.now in let vs = mut_vals a.0 in
    let y : (walk_of 𝓛 En hs c).Ghost = ((κs, qs, bounds, a, (vs, (heap_val ∷ [], tt))), gh) in let Post : Val → SProp 𝓤 = (walk_of 𝓛 En hs c).post y in
    qed 𝓛 (((‵ (flft κs.0 qs.0) ⊛ ‵ ftrue) ⊛ ‵ ((MutRef (named 0) κs.0 R).own_val a.0 vs) ⊛ ‵ (G.own_val a.1.0 (heap_val ∷ [])) ⊛ ‵ ftrue) ∷ raw (fact 𝓤 (IsSome h.value)) ∷ []) ∵
    move ! (1 ∷ []) $ heard ! (IsSome h.value) (λ some_held. split ! $ split ! $ move ! (2 ∷ []) $ split3 ! $ keep ! (0 ∷ 3 ∷ 1 ∷ []) $
    let found = there h.value some_held in let x = found.0 in
    enter ! _ _ _ _ _ $ alloc_all ! (λ l. pass_all ! refl ((tt, tt), ((tt, ((tt, tt), tt)), tt)) $
    fsplit3 ! $ move ! (1 ∷ 2 ∷ 3 ∷ []) $ opens ! tt R b o (λ us. move ! (1 ∷ []) $ peeks ! R _ (shows 𝓛 R) h us (λ is. fsplit ! $ move ! (1 ∷ []) $
    rewrite ! 0 (λ (held : Option Held). ‵ (seat_owns h.at held)) found.1 refl $
    let word = lowers.val_is h us is in let Cell = λ (ws : List Val). ‵ (cell_at full_share R.mir ws b o) in rewrite ! 2 Cell word refl $
    -- [the box's memory; what the fields own; the seat's cell; the open borrow, in three entries; the rest of the reference; the handle]
    let at_good = ((rawptr_Lawful 𝓛).typed h.at _ refl).0 in
    first ! $ blocks ! $ sets ! (of_opd ! (load ! (through ! refl (fld ! refl (stop !))) (look_in ! 2 (sub ! 0 refl (whole !))))) refl at_good $
    sets ! (of_opd ! (get ! refl)) refl at_good $
    -- let held = Box::from_raw(alloc, at)
    let k = triple_of 𝓛 (callee.signature T A ghosts dict A_drop) (callee.spec T A ghosts dict A_drop 𝓛 𝓜.mem 𝓡.returns) in
    let asked : k.Ghost = ((([], ([], tt)), (full_share, (full_share, tt)), tt, (a.1.0, (h.at, tt)), (heap_val ∷ [], (ptr_val h.at ∷ [], tt))), x) in
    use0 𝓛 (raw (fact 𝓤 ([] ⊑ A.lives))) (fact_i 𝓤 _ (emp 𝓤) (⊑_static [])) $ join ! $ use0 𝓛 (raw (fact 𝓤 ([] ⊑ T.lives))) (fact_i 𝓤 _ (emp 𝓤) (⊑_static [])) $ join ! $
    nothing ! $ feq_i ! (List Val) (ptr_val h.at ∷ []) (ptr_val h.at ∷ []) refl $ fjoin ! $ move ! (8 ∷ 0 ∷ []) $ fjoin ! $
    nothing ! $ use0 𝓛 (‵ (flft [] full_share)) (𝓛.lfts.lft-nil full_share) $ join ! $ use0 𝓛 (‵ (flft [] full_share)) (𝓛.lfts.lft-nil full_share) $ join ! $ join ! $ join ! $
    use1 𝓛 (raw (k.pre asked)) (id⊢ 𝓤 _) $
    calls_at_last ! (framed 𝓤 H 𝓜 𝓣) k (met 𝓤 𝓛 𝓜 𝓡 (code.calls-std_alloc::boxed::Box::from_raw 𝓡.env wired) T A T_laws A_laws ghosts dict A_drop
    (passed 𝓡.env (code.calls-std_heap::GlobalAllocator::allocate 𝓡.env wired) (code.calls-std_heap::GlobalAllocator::deallocate 𝓡.env wired) (code.calls-std_heap::GlobalAllocator::grow 𝓡.env wired) (code.calls-std_heap::GlobalAllocator::shrink 𝓡.env wired) _ 𝓤 𝓛 𝓜 𝓡)
    (A_glue 𝓤 𝓛 𝓜 𝓡 (code.calls-beas_c::Destruct++none::drop 𝓡.env wired))) asked (and_then ! (get ! refl) (and_then ! (get ! refl) (no_more !))) (λ u.
    let Ended = callee.ended T A ghosts dict A_drop in
    use1 𝓛 (later (some (λ (r : Boxed.Denot). (((‵ (flft [] full_share) ⊛ ‵ (flft [] full_share) ⊛ ‵ ftrue) ⊛ ‵ (Boxed.own_val r (u ∷ [])))
    ⊛ some (λ (ls : Lasts Ended asked.0.0 asked.0.3). ‵ (lasts Ended asked.0.0 asked.0.3 ls) ⊛ raw (fact 𝓤 (r.value ≡ x)) ⊛ raw (fact 𝓤 (r.alloc ≡ a.1.0))))))) (id⊢ 𝓤 (k.post asked u)) $
    await ! tt $ pick ! (λ r. split ! $ move ! (1 ∷ []) $ pick ! (λ _. split3 ! $ drop ! $ heard ! (r.value ≡ x) (λ same. drop ! $ split ! $ drop ! $
    peeks ! Boxed (Is Boxed) (shows 𝓛 Boxed) r (u ∷ []) (λ is_boxed. let good = ((Boxed_lawful 𝓛).typed r (u ∷ []) is_boxed).0 in
    lands_last ! refl good $ exec ! 𝓣.C 𝓣.Λ (env code.Mir.locals l) (after 1 (code.function).body) (at_ret _ Post) $ sets ! (of_opd ! (get ! refl)) refl good $
    -- [the box; what the fields own; the seat's cell; the open borrow, in three entries; the rest of the reference]
    let h' = record h { value = None } in
    nothing ! $ move ! (2 ∷ 0 ∷ []) $ fjoin ! $ rewrite ! 2 Cell (sym word) refl $ move ! (2 ∷ 0 ∷ 3 ∷ 4 ∷ 5 ∷ []) $ closes ! tt R h' us b o $
    returns ! (look_at ! 0 refl) $ free_all ! refl $
    move ! (4 ∷ []) $ group ! 3 $ nothing ! $ nothing ! $ join ! $ move ! (1 ∷ 0 ∷ []) $ join ! $ nothing ! $ move ! (2 ∷ 0 ∷ []) $ join ! $
    use0 𝓛 (raw (fact 𝓤 (h'.value ≡ None))) (fact_i 𝓤 _ (emp 𝓤) refl) $ use0 𝓛 (raw (fact 𝓤 (Some r.value ≡ h.value))) (fact_i 𝓤 _ (emp 𝓤) (ap Some same ∙ sym found.1)) $ join ! $
    keep ! (1 ∷ 2 ∷ 3 ∷ 0 ∷ []) $ by ! (leaves 𝓛 En hs c y u r (h', (tt, tt)) (tt, (tt, tt)))))))))))))
