use Rattle.std.proofs.Common.{◌≡◌, ◌<◌, ◌++◌, ◌∙◌, ◌-◌, ap, sym, subst, arith, length, map, get_or}
use Rattle.std.proofs.Math.Seq.{get_or-append_right}
use Rattle.std.proofs.lemmas.List.{get_or-map, length-append, length-map}
use Rattle.beas_core.specs.Types.{Binding}
use Rattle.beas_core.specs.Coverage.{class_at}
use Rattle.plan_ops.proofs.tables.ClassList.get.Goals as goal

-- a place behind the classes and the columns is a constant's
pub returns-else-at-self-2 : goal.returns-else-at-self-2
returns-else-at-self-2 c =
    let list = c.self.inside in
    let at = c.args.at in
    let known = list.classes.now in
    let added = map (class_at list.block.now list.atom) list.columns.now in
    let equated = map (λ (k : Binding). k.0) list.constants.now in
    let past = c.if-at-self.false in
    let far = c.if-at-self-2.false in
    let wide = length-map list.columns.now (class_at list.block.now list.atom) in
    let front = length-append known added in
    let all = length-append (known ++ added) equated in
    let last = length-map list.constants.now (λ (k : Binding). k.0) in
    let within : at < length (known ++ added ++ equated) = subst (λ xs. at < length xs) (sym c.self.view_is) c.requires in
    let place = at - length known - length list.columns.now in
    let same : at - length (known ++ added) ≡ place = omega (arith, front, wide) in
    let is = get_or-append_right (known ++ added) equated at 0 (omega (arith, front, wide, past, far))
    ∙ ap (λ n. get_or equated n 0) same
    ∙ get_or-map (λ (k : Binding). k.0) list.constants.now place c.index-self-at.result 0
    (omega (arith, within, all, front, last, wide, past, far)) in
    sym is ∙ ap (λ xs. get_or xs at 0) c.self.view_is
