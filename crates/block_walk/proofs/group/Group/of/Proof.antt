-- `of` makes a value of no bytes, whose ghost field is what the port says of the hits.
use Rattle.std.proofs.Common.{◌≡◌, List, [], ◌∷◌, refl}
use mir.Syntax.{a_type, dcons, dnil, named}
use mir.Val.{Val, vptr, vstruct, vnil}
use mir.MapTy.{inst_fn}
use base.Logic.{SProp, emp}
use base.Fml.{Fml}
use types.Kit.{‵, raw, ◌⊛◌, ◌$◌, ◌∵◌, !, qed, by, keep, use0, split, fjoin}
use types.Run.{no_more, returns, enter}
use types.ByLocal.{alloc_all, pass_all, free_all, look_at, sets}
use types.Part.{agg}
use contract.Running.{tables}
use contract.Monad.{fact, fact_i}
use denote.Exit.{yes}
use denote.RattleType.{RattleType, owns}
use denote.Signature.{types_at, plain}
use denote.Steps.{nothing}
use denote.Shadow.{pure_i}
use denote.Param.{param, bounded}
use denote.Builtin.{RefOf}
use denote.Ref.{shr_vals, shr_Tells}
use denote.Triple.Entry.{alive}
use denote.Triple.Walked.{Stays, stay_dropped, walk_of, Goes-dropped}
use Rattle.std.proofs.raw_atomic.Walks.{proved, leaves}
use Rattle.beas_core.specs.Types.{Row}
use Rattle.beas_core.specs.contracts.port.Hits.{the_row as hits_row}
use Rattle.block_walk.specs.contracts.group.Group.{the_row}
use Rattle.block_walk.specs.contracts.group.Group.of.{ended, clauses}
use Rattle.block_walk.specs.contracts.group.Group.of.Key.{name as #self}
use Rattle.block_walk.proofs.group.Group.of.Statement.{statement}
use Rattle.block_walk.proofs.group.Group.of.Code as code

abbrev token : Val
token = vstruct vnil

pub of_spec : {M : Type 1} → statement M
of_spec 𝓤 𝓛 𝓜 𝓡 wired T L g d _ =
    let H = 𝓛.H in let 𝓣 = tables 𝓤 H 𝓜 𝓡 𝓡.env in let R : RattleType = param 0 T in let En = ended T g d in
    let inst = bounded (a_type ∷ []) (T, tt) (dcons d dnil) in let fn = inst_fn inst code.function in let c = clauses T g d 𝓛 𝓜.mem 𝓡.returns in
    let port = RefOf (0 ∷ []) tt (plain (λ _. R)) (λ _. tt) in let hits = RefOf (1 ∷ []) tt (plain (λ _. hits_row)) (λ _. tt) in
    let hs : Stays En.signature.params En.kept = (stay_dropped port yes, (stay_dropped hits yes, tt)) in
    proved 𝓛 En hs c 𝓜 𝓡 (Goes-dropped 𝓛 3 port yes (λ κs x f. refl), (Goes-dropped 𝓛 3 hits yes (λ κs x f. refl), tt)) (#self inst) fn
    (code.unfolded 𝓤 H 𝓜 𝓡 wired (T, tt) d)
    (λ κs. (shr_vals, (shr_vals, tt))) (λ κs. (shr_Tells (named 0) κs.0 R, (shr_Tells (named 1) κs.1.0 hits_row, tt))) (λ κs qs bounds a gh are.
    let p : Val = vptr a.0.ref_ptr.0 a.0.ref_ptr.1 in let q : Val = vptr a.1.0.ref_ptr.0 a.1.0.ref_ptr.1 in
    let rows : List Row = g.members a.0.now a.1.0.now in let r : the_row.Denot = record { rows = rows } in let F : Fml = the_row.own_val r (token ∷ []) in
    let y : (walk_of 𝓛 En hs c).Ghost = ((κs, qs, bounds, a, (p ∷ [], (q ∷ [], tt))), gh) in let Post : Val → SProp 𝓤 = (walk_of 𝓛 En hs c).post y in
    qed 𝓛 ((raw (alive 𝓛 En.signature κs qs) ⊛ ‵ (owns (types_at En.signature.params κs) a y.0.4)) ∷ raw ((c κs a).requires gh) ∷ []) ∵ split ! $ keep ! (0 ∷ []) $
    enter ! 𝓣.C 𝓣.Λ fn (p ∷ q ∷ []) Post $ alloc_all ! (λ l. pass_all ! refl ((tt, tt), ((tt, tt), tt)) $
    sets ! (agg ! (no_more !)) refl (tt, tt) $
    use0 𝓛 (raw (fact 𝓤 (rows ≡ rows))) (fact_i 𝓤 (rows ≡ rows) (emp 𝓤) refl) $
    pure_i ! F ((λ vss. (tt, tt)), tt) ((tt, (refl, tt)), tt) $ nothing ! $ nothing ! $ fjoin ! $ nothing ! $ fjoin ! $
    returns ! (look_at ! 0 refl) $ free_all ! refl $ keep ! (3 ∷ 0 ∷ 1 ∷ 2 ∷ []) $ by ! (leaves 𝓛 En hs c y token r (tt, (tt, tt)) (tt, (tt, tt)))))
