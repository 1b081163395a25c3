use Rattle.std.proofs.Common.{◌≡◌, ◌≤◌, ◌<◌, ◌+◌, ◌*◌, ◌∙◌, ℕ, List, ap, refl, sym, subst, arith, length, map, All}
use Rattle.std.specs.List.{flat_map, sum_by}
use Rattle.std.proofs.lemmas.List.{length-map}
use Rattle.beas_core.specs.declared.schema.Access.{Access}
use Rattle.beas_core.specs.declared.schema.ColumnId.{ColumnId}
use Rattle.beas_core.specs.Types.{Row, TableRows, Use}
use Rattle.beas_core.specs.Groups.{group_of, project}
use Rattle.beas_core.specs.Order.{row_cmp}
use Rattle.beas_core.specs.Reads.{probe_reads, step_reads}
use Rattle.beas_core.specs.Sets.{distinct}
use Rattle.beas_core.specs.Coverage.{class_at}
use Rattle.beas_core.specs.Derivations.{access_in, use_of}
use Rattle.beas_core.specs.Extensions.{extensions}
use Rattle.plan_ops.specs.Joins.{IsJoin, IsSharing, joins}
use Rattle.plan_ops.specs.Over.{bound_set}
use Rattle.plan_ops.specs.Places.{column_of}
use Rattle.plan_ops.proofs.ExtendFacts.{share_is, found_are, key_bound, extensions_are, extensions_wide}
use Rattle.plan_ops.proofs.ProbeFacts.{counts_err}
use Rattle.plan_ops.proofs.extending.extend.Given as given
use Rattle.plan_ops.proofs.extending.extend.Goals.{After-as_slice-rows}
use Rattle.plan_ops.proofs.extending.extend.Goals as goal

-- what is known once the join and the key are made
module _ (g : given.Over) (c : After-as_slice-rows g) where
  abbrev tables : TableRows
  tables = g.P.AccessPort.rows c.args.port.now

  abbrev accesses : List Access
  accesses = g.P.AccessPort.accesses c.args.port.now

  abbrev access : Access
  access = access_in accesses c.args.step.now.access

  abbrev column_at : ColumnId → ColumnId
  column_at k = column_of c.args.from.now.classes (class_at c.args.block.now c.args.step.now.atom k)

  abbrev extended : List Row
  extended = extensions tables c.args.block.now accesses c.args.step.now (bound_set c.args.block.now c.args.from.now) c.args.from.now.rows

  is_join : IsJoin c.args.block.now (use_of accesses c.args.step.now) c.args.from.now.classes c.in_ok-join.join
  is_join = subst (λ (a : Access). let u : Use = record { atom = c.args.step.now.atom; access = a } in
      IsJoin c.args.block.now u c.args.from.now.classes c.in_ok-join.join) c.access-access.ensures.access c.in_ok-join.ensures

  keyed : c.key-key.result.now ≡ map column_at access.key
  keyed = c.key-key.ensures ∙ is_join.key_is

  bound : All (λ (row : Row). All (λ (column : ColumnId). column.0 < length row) c.key-key.result.now) c.args.from.now.rows
  bound = key_bound c.args.block.now accesses c.args.step.now c.args.from.now.classes c.requires.over.classes_are c.in_ok-join.join is_join tables
      c.key-key.result.now keyed c.args.from.now.rows c.requires.over.widths c.requires.key

  share : sum_by (probe_reads tables access) (distinct row_cmp (map (project c.key-key.result.now) c.as_slice-rows.result.now))
      ≡ step_reads tables c.args.block.now accesses c.args.step.now (bound_set c.args.block.now c.args.from.now) c.args.from.now.rows
  share = share_is c.args.block.now accesses c.args.step.now c.args.from.now.classes c.requires.over.classes_are c.in_ok-join.join is_join tables
      c.key-key.result.now keyed c.args.from.now.rows c.requires.over.widths c.requires.key c.key-key.result.now c.as_slice-rows.result.now
      refl c.as_slice-rows.ensures

  found : distinct row_cmp (flat_map (λ row. joins c.in_ok-join.join.sources.items c.in_ok-join.join.checks.items row
      (group_of (tables access.table) access (project c.key-key.result.now row))) c.as_slice-rows.result.now) ≡ extended
  found = found_are c.args.block.now accesses c.args.step.now c.args.from.now.classes c.requires.over.classes_are c.in_ok-join.join is_join tables
      c.key-key.result.now keyed c.args.from.now.rows c.requires.over.widths c.requires.key c.key-key.result.now c.as_slice-rows.result.now
      refl c.as_slice-rows.ensures
      ∙ extensions_are c.args.block.now accesses c.args.step.now c.args.from.now.classes c.requires.over.classes_are c.in_ok-join.join is_join tables
      c.key-key.result.now keyed c.args.from.now.rows c.requires.over.widths c.requires.key

  wide : All (λ (row : Row). length row ≡ length c.in_ok-join.join.classes) extended
  wide = subst (All (λ (row : Row). length row ≡ length c.in_ok-join.join.classes))
      (extensions_are c.args.block.now accesses c.args.step.now c.args.from.now.classes c.requires.over.classes_are c.in_ok-join.join is_join tables
      c.key-key.result.now keyed c.args.from.now.rows c.requires.over.widths c.requires.key)
      (extensions_wide c.args.block.now accesses c.args.step.now c.args.from.now.classes c.requires.over.classes_are c.in_ok-join.join is_join tables
      c.key-key.result.now keyed c.args.from.now.rows c.requires.over.widths c.requires.key)

pub rows_by_key-requires-clause-width : goal.rows_by_key-requires-clause-width
rows_by_key-requires-clause-width g c =
    let k = (goal.at.rows_by_key-requires-clause-width g c).After-as_slice-rows in
    ap length (keyed g k) ∙ length-map (access g k).key (column_at g k)

pub rows_by_key-requires-clause-room : goal.rows_by_key-requires-clause-room
rows_by_key-requires-clause-room g c =
    let k = (goal.at.rows_by_key-requires-clause-room g c).After-as_slice-rows in
    omega (arith, ap (λ (rs : List Row). length rs * (access g k).bound) c.as_slice-rows.ensures, c.requires.room)

pub rows_by_key-requires-clause-bound : goal.rows_by_key-requires-clause-bound
rows_by_key-requires-clause-bound g c =
    subst (λ (rs : List Row). All (λ (row : Row). All (λ (column : ColumnId). column.0 < length row) c.key-key.result.now) rs) (sym c.as_slice-rows.ensures)
    (bound g (goal.at.rows_by_key-requires-clause-bound g c).After-as_slice-rows)

pub rows_by_key-requires-clause-sharing : goal.rows_by_key-requires-clause-sharing
rows_by_key-requires-clause-sharing g c =
    let is = is_join g (goal.at.rows_by_key-requires-clause-sharing g c).After-as_slice-rows in
    subst (All (λ (row : Row). IsSharing (length row) c.in_ok-join.join)) (sym c.as_slice-rows.ensures)
    (λ i d l. subst (λ n. IsSharing n c.in_ok-join.join) (sym (c.requires.over.widths i d l)) is.sharing)

pub returns-in_err-found-clause-reads : goal.returns-in_err-found-clause-reads
returns-in_err-found-clause-reads g c =
    counts_err c.from_residual-in_err-found.result c.args.reads.now c.rows_by_key.new.reads _ c.from_residual-in_err-found.ensures.0
    c.in_err-found.ensures.reads.0 (subst (λ (n : ℕ). c.rows_by_key.new.reads ≤ c.args.reads.now + n)
    (share g (goal.at.returns-in_err-found-clause-reads g c).After-as_slice-rows) c.in_err-found.ensures.reads.1)

pub returns-in_err-found-clause-steps : goal.returns-in_err-found-clause-steps
returns-in_err-found-clause-steps g c =
    counts_err c.from_residual-in_err-found.result c.args.steps.now c.rows_by_key.new.steps _ c.from_residual-in_err-found.ensures.0
    c.in_err-found.ensures.steps.0 (subst (λ (n : ℕ). c.rows_by_key.new.steps ≤ c.args.steps.now + n)
    (share g (goal.at.returns-in_err-found-clause-steps g c).After-as_slice-rows) c.in_err-found.ensures.steps.1)

pub returns-clause-over : goal.returns-clause-over
returns-clause-over g c =
    let k = (goal.at.returns-clause-over g c).After-as_slice-rows in
    let rows = c.from_vec.ensures ∙ c.sort_distinct.ensures ∙ ap (distinct row_cmp) c.in_ok-found.ensures.rows ∙ found g k in
    record {
      classes_are = (is_join g k).classes_are;
      widths = subst (All (λ (row : Row). length row ≡ length c.in_ok-join.join.classes)) (sym rows) (wide g k);
    }

pub returns-clause-rows : goal.returns-clause-rows
returns-clause-rows g c =
    c.from_vec.ensures ∙ c.sort_distinct.ensures ∙ ap (distinct row_cmp) c.in_ok-found.ensures.rows
    ∙ found g (goal.at.returns-clause-rows g c).After-as_slice-rows

pub returns-clause-reads : goal.returns-clause-reads
returns-clause-reads g c =
    c.in_ok-found.ensures.reads ∙ ap (λ (n : ℕ). c.args.reads.now + n) (share g (goal.at.returns-clause-reads g c).After-as_slice-rows)

pub returns-clause-steps : goal.returns-clause-steps
returns-clause-steps g c =
    c.in_ok-found.ensures.steps ∙ ap (λ (n : ℕ). c.args.steps.now + n) (share g (goal.at.returns-clause-steps g c).After-as_slice-rows)
