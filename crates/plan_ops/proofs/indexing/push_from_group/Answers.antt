use Rattle.std.proofs.Common.{◌≡◌, ◌++◌, ℕ, List, Option, Bor, IfSome, ◌∷◌, ◌∙◌, [], ap, sym, subst, map, take, get_or, append-nil, append_assoc, arith}
use Rattle.std.specs.List.{filter}
use Rattle.std.proofs.lemmas.List.{map-append}
use Rattle.place_chains.specs.Fitting.{IsRun}
use Rattle.place_chains.specs.TupleOrder.{values_at}
use Rattle.place_chains.proofs.FittingFacts.{none_passes, none_passes_more, pass_more}
use Rattle.plan_ops.specs.Joins.{fits_by, joined_by, joins}
use Rattle.plan_ops.proofs.MatchFacts.{fits_only}
use Rattle.plan_ops.proofs.indexing.push_from_group.Goals.{in-Some, in-None}
use Rattle.plan_ops.proofs.indexing.push_from_group.Goals as goal

pub tuples-init : goal.tuples-init
tuples-init g c =
    let join = c.args.join.now in
    let row = c.args.row.now in
    let tuples = g.P.AccessPort.members c.args.port.now c.args.hits.now in
    let start = c.args.found.now.items in
    let Runs : Option (Bor (List ℕ)) → Type 0 = λ o.
    IfSome o (λ numbers. IsRun join.shared.1 tuples (values_at join.shared.0 row) 0 numbers.now) in
    let run_is : Runs c.match-index.run =
    elim c.match-index.branch [
      | in-Some w ↦ subst Runs (sym w.run-is) w.run_of.ensures
      | in-None w ↦ subst Runs (sym w.run-is) tt
    ] in
    record {
      fits = c.among-fitting.ensures.fits join.shared.1 tuples (values_at join.shared.0 row)
          (c.len-count.ensures ∙ c.requires.hits.count) run_is;
      found = subst (λ n. start ≡ start ++ joins join.sources.items join.checks.items row (take n tuples)) (sym c.among-fitting.ensures.first) (sym (append-nil start));
    }

pub tuples-preserved : goal.tuples-preserved
tuples-preserved g c =
    let join = c.args.join.now in
    let row = c.args.row.now in
    let tuples = g.P.AccessPort.members c.args.port.now c.args.hits.now in
    let start = c.args.found.now.items in
    let p = fits_by join.checks.items row in
    let f = joined_by join.sources.items row in
    let i = c.in-Some-next.i in
    let t = get_or tuples i [] in
    let was = c.tuples.invariant in
    let next = c.in-Some-next.ensures join.shared.1 tuples (values_at join.shared.0 row) was.fits in
    let within = next.1 in
    let passed = none_passes p tuples join.shared.1 (values_at join.shared.0 row) (fits_only join row c.requires.sharing tuples)
    c.tuples.fitting.from i next.0 (omega (arith, within)) next.2 in
    record {
      fits = next.4;
      found = c.in_ok-push_if_fits.ensures
          ∙ ap (λ xs. xs ++ map f (filter p (t ∷ []))) was.found
          ∙ append_assoc start (map f (filter p (take c.tuples.fitting.from tuples))) (map f (filter p (t ∷ [])))
          ∙ ap (λ xs. start ++ xs) (sym (map-append f (filter p (take c.tuples.fitting.from tuples)) (filter p (t ∷ [])))
          ∙ ap (map f) (ap (λ xs. xs ++ filter p (t ∷ [])) (sym passed) ∙ sym (pass_more p tuples i within)
          ∙ ap (λ n. filter p (take n tuples)) (sym next.3)));
    }

pub returns : goal.returns
returns g c =
    let join = c.args.join.now in
    let row = c.args.row.now in
    let tuples = g.P.AccessPort.members c.args.port.now c.args.hits.now in
    let p = fits_by join.checks.items row in
    let was = c.tuples.invariant in
    let none = (c.in_default.ensures join.shared.1 tuples (values_at join.shared.0 row) was.fits).0 in
    was.found ∙ ap (λ xs. c.args.found.now.items ++ map (joined_by join.sources.items row) xs)
    (sym (none_passes_more p tuples join.shared.1 (values_at join.shared.0 row) (fits_only join row c.requires.sharing tuples)
    c.tuples.fitting.from was.fits.from none))
