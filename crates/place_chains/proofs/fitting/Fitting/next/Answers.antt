use Rattle.std.proofs.Common.{◌≡◌, ◌+◌, ◌<◌, ℕ, Some, refl, sym, subst, arith}
use Rattle.place_chains.specs.declared.fitting.Fitting.{Fitting}
use Rattle.place_chains.specs.Fitting.{IsNext}
use Rattle.place_chains.proofs.FittingFacts.{first_below, next_found, next_none, next_of_all}
use Rattle.place_chains.proofs.fitting.Fitting.next.Goals.{in-Some+in_ok-first-in-Some, in-None}
use Rattle.place_chains.proofs.fitting.Fitting.next.Goals as goal

pub overflow_add-self : goal.overflow_add-self
overflow_add-self c =
    let given = c.requires in
    elim c.match-self.branch [
      | in-Some+in_ok-first-in-Some w ↦ (
          let below = first_below given.0 given.1 given.2 c.args.self.now given.3 w.in-Some.run' w.in-Some.is w.in_ok-first-in-Some.first.now
          w.in_ok-first-in-Some.others.now w.in_ok-first-in-Some.ensures.cases.0 in
          omega (arith, below, w.at-is))
      | in-None w ↦ (let below = w.if-self-count.true in omega (arith, below, w.at-is))
    ]

pub returns : goal.returns
returns c = λ places tuples values fits.
    let f = c.args.self.now in
    let Next : ℕ → Fitting → Type 0 = λ at g. IsNext places tuples values f (Some at) (record { count = g.count; from = at + 1; run = g.run }) in
    elim c.match-self.branch [
      | in-Some+in_ok-first-in-Some w ↦ (
          let first = w.in_ok-first-in-Some.first.now in
          let others = w.in_ok-first-in-Some.others in
          subst (λ g. Next c.match-self.at g) (sym w.self-is)
          (subst (λ at. Next at (record { count = f.count; from = f.from; run = Some others })) (sym w.at-is)
          (next_found places tuples values f fits w.in-Some.run' w.in-Some.is first others w.in_ok-first-in-Some.ensures.cases.0)))
      | in-None w ↦ (
          subst (λ g. Next c.match-self.at g) (sym w.self-is)
          (subst (λ at. Next at f) (sym w.at-is) (next_of_all places tuples values f fits w.in-None.is w.if-self-count.true)))
    ]
