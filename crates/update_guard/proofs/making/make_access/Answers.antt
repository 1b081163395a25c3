use Rattle.std.proofs.Common.{◌≡◌, ◌∙◌, ◌<◌, ◌≤◌, ◌+◌, ℕ, List, [], ◌∷◌, length, length-append, get_or, ap, sym, subst, arith, Option, if◌then◌else◌}
use Rattle.std.specs.Prelude.{Err}
use Rattle.std.specs.Option.{option_or, is_none}
use Rattle.std.proofs.lemmas.List.{get_or_default}
use Rattle.beas_core.specs.declared.refusal.Refusal.{Refusal}
use Rattle.beas_core.specs.declared.schema.Access.{Access}
use Rattle.beas_core.specs.declared.schema.AccessId.{AccessId}
use Rattle.beas_core.specs.Types.{Row}
use Rattle.beas_core.specs.Groups.{Holds}
use Rattle.beas_core.specs.Shapes.{AccessIsWellFormed}
use Rattle.access_index.specs.Index.{IsIndexOf}
use Rattle.catalogue.specs.Schema.{columns_at}
use Rattle.catalogue.specs.Refusing.{admit_refusal, new_access, already_broken}
use Rattle.beas_core.specs.Results.{IsRefusedAs}
use Rattle.catalogue.proofs.MayMake.{may_make_access}
use Rattle.update_guard.proofs.GuardFacts.{on_ok, on_err, widened}
use Rattle.update_guard.proofs.InsertFacts.{refused_alike}
use Rattle.update_guard.proofs.making.make_access.Given as given
use Rattle.update_guard.proofs.making.make_access.Goals.{After-put_index}
use Rattle.update_guard.proofs.making.make_access.Goals as goal

pub recall_few_columns-requires : goal.recall_few_columns-requires
recall_few_columns-requires g c =
    let may = may_make_access c.args.limits.now c.args.catalogue.now c.args.spec.now c.in_ok-access.ensures.refused c.requires.fetches
    c.args.limits.now.constraints_in_range.1 in
    subst (λ (x : Access). x.table.0 < length c.args.catalogue.now.tables) (sym c.in_ok-access.ensures.admitted) may.table

pub put_index-requires : goal.put_index-requires
put_index-requires g c =
    let may = may_make_access c.args.limits.now c.args.catalogue.now c.args.spec.now c.in_ok-access.ensures.refused c.requires.fetches
    c.args.limits.now.constraints_in_range.1 in
    let a = c.in_ok-access.access in
    widened (length (columns_at c.args.catalogue.now a.table)) a c.recall_few_columns.ensures
    (subst (λ (x : Access). AccessIsWellFormed (length (columns_at c.args.catalogue.now x.table)) x) (sym c.in_ok-access.ensures.admitted) may.form)

-- the constraint that is admitted, over the rows of its table
module _ (g : given.Over) (c : After-put_index g) where
  abbrev admitted : Access
  admitted = new_access c.args.catalogue.now c.args.spec.now

  abbrev rows : List Row
  rows = get_or c.args.rows.now admitted.table.0 []

  abbrev refusal : Option Refusal
  refusal = admit_refusal c.args.limits.now c.args.catalogue.now c.args.spec.now

  same : c.in_ok-access.access ≡ admitted
  same = c.in_ok-access.ensures.admitted

  own : c.index-as_slice-table.result ≡ rows
  own =
      let lent = c.index-as_slice-table.result in
      let may = may_make_access c.args.limits.now c.args.catalogue.now c.args.spec.now c.in_ok-access.ensures.refused c.requires.fetches
      c.args.limits.now.constraints_in_range.1 in
      let live : admitted.table.0 < length c.args.rows.now = omega (arith, may.table, c.requires.tables) in
      c.index-as_slice-table.is ∙ ap (λ xs. get_or xs c.in_ok-access.access.table.0 lent) c.as_slice.ensures
      ∙ ap (λ (x : Access). get_or c.args.rows.now x.table.0 lent) same
      ∙ get_or_default c.args.rows.now admitted.table.0 lent [] live

  told : option_or refusal (already_broken rows admitted) ≡ already_broken c.index-as_slice-table.result c.in_ok-access.access
  told = ap (λ o. option_or o (already_broken rows admitted)) c.in_ok-access.ensures.refused ∙ ap (λ rs. already_broken rs admitted) (sym own)
      ∙ ap (already_broken c.index-as_slice-table.result) (sym same)

  share : length c.index-as_slice-table.result ≡ (if is_none refusal then length rows else 0)
  share = ap length own ∙ sym (ap (λ (o : Option Refusal). if is_none o then length rows else 0) c.in_ok-access.ensures.refused)

pub returns-in-Err-clause-refused : goal.returns-in-Err-clause-refused
returns-in-Err-clause-refused g c =
    let R : Option Refusal → Type 0 = λ r. IsRefusedAs {A = AccessId} (Err c.in-Err.why) r in
    subst R (sym (told g (goal.at.returns-in-Err-clause-refused g c).After-put_index))
    (refused_alike (Unit {0}) AccessId c.in-Err.why (already_broken c.index-as_slice-table.result c.in_ok-access.access) c.in-Err.ensures.refused)

pub returns-in-Err-clause-cost : goal.returns-in-Err-clause-cost
returns-in-Err-clause-cost g c n =
    c.in-Err.ensures.refused_read (λ e. n (ap Err e))
    ∙ ap (λ k. c.args.steps.now + k) (share g (goal.at.returns-in-Err-clause-cost g c).After-put_index)

pub returns-in-Err-clause-at_most : goal.returns-in-Err-clause-at_most
returns-in-Err-clause-at_most g c =
    subst (λ (k : ℕ). c.put_index.new.steps ≤ c.args.steps.now + k) (share g (goal.at.returns-in-Err-clause-at_most g c).After-put_index)
    c.in-Err.ensures.at_most

pub returns-in-Ok-clause-refused : goal.returns-in-Ok-clause-refused
returns-in-Ok-clause-refused g c =
    subst (IsRefusedAs c.put_access.result) (sym (told g (goal.at.returns-in-Ok-clause-refused g c).After-put_index ∙ c.in-Ok.ensures.refused))
    c.put_access.ensures.refused

pub returns-in-Ok-clause-index : goal.returns-in-Ok-clause-index
returns-in-Ok-clause-index g c =
    let at = (goal.at.returns-in-Ok-clause-index g c).After-put_index in
    let x = c.in-Ok.ensures.index in
    on_ok c.put_access.result c.put_access.ensures.index (λ e. record {
      index = x.index;
      added = e ∙ x.added;
      access_is = x.access_is ∙ same g at;
      index_is = subst (λ (rs : List Row). IsIndexOf x.index rs) (own g at) x.index_is;
      holds = subst (λ (x : Access). Holds (rows g at) x) (same g at)
          (subst (λ (rs : List Row). Holds rs c.in_ok-access.access) (own g at) x.holds);
    })

pub returns-in-Ok-clause-indexes_stay : goal.returns-in-Ok-clause-indexes_stay
returns-in-Ok-clause-indexes_stay g c =
    let x = c.in-Ok.ensures.index in
    on_err c.put_access.result c.put_access.ensures.without (λ f. f (g.I.Indexes.seen c.args.indexes.now) x.index x.added)

pub put_access-requires-clause-some : goal.put_access-requires-clause-some
put_access-requires-clause-some g c =
    let x = c.in-Ok.ensures.index in
    omega (arith, ap length x.added, length-append (g.I.Indexes.seen c.args.indexes.now) (x.index ∷ []))

pub returns-in-Ok-clause-cost : goal.returns-in-Ok-clause-cost
returns-in-Ok-clause-cost g c n =
    c.in-Ok.ensures.read ∙ ap (λ k. c.args.steps.now + k) (share g (goal.at.returns-in-Ok-clause-cost g c).After-put_index)

pub returns-in-Ok-clause-at_most : goal.returns-in-Ok-clause-at_most
returns-in-Ok-clause-at_most g c =
    subst (λ (k : ℕ). c.put_index.new.steps ≤ c.args.steps.now + k) (share g (goal.at.returns-in-Ok-clause-at_most g c).After-put_index)
    c.in-Ok.ensures.at_most
