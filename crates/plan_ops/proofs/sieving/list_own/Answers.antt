use Rattle.std.proofs.Common.{All, ◌∷◌, [], inl, inr, refl, sym, subst}
use Rattle.std.proofs.lemmas.List.Elements.{All-push}
use Rattle.beas_core.proofs.Sets.{Has, Has-append_left, Has-append_right}
use Rattle.plan_ops.specs.Sieves.{IsOwn}
use Rattle.plan_ops.proofs.sieving.list_own.Goals as goal

pub returns : goal.returns
returns c =
    let old = c.args.own.now.items in
    let found = c.in-Some.found in
    let items = c.in_ok-push.ensures.items in
    record {
      own = subst (All (IsOwn c.args.block.now c.args.atom c.args.columns.now)) (sym items)
          (All-push (IsOwn c.args.block.now c.args.atom c.args.columns.now) old found c.requires.own c.in-Some.ensures.own);
      stay = λ o h. subst (λ os. Has os o) (sym items) (Has-append_left old (found ∷ []) o h);
      rest = λ e. inr (found, subst (λ os. Has os found) (sym items) (Has-append_right old (found ∷ []) found (inl refl)), c.in-Some.ensures.number);
    }
