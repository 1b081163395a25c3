use Rattle.std.proofs.Common.{◌++◌, ◌∙◌, ap, drop, length, map, subst, sym, take}
use Rattle.std.proofs.Math.Seq.{take-append_seam}
use Rattle.attribute_closure.specs.Uses.{as_use}
use Rattle.specialise.specs.Trials.{IsClosedTable, rule_of}
use Rattle.specialise.proofs.rules.table_of.Goals as goal

pub returns-clause-table : goal.returns-clause-table
returns-clause-table c =
    let table = c.fill.new.table in
    -- what was behind the slice that was filled
    let rest = drop (length table) c.in_ok-table.table.items in
    subst (IsClosedTable (map (rule_of c.args.block.now c.args.candidates.now) (map as_use c.args.found.now)))
    (sym (ap (λ n. take n (table ++ rest)) (sym (c.fill.auto.table ∙ c.deref_mut.ensures.len)) ∙ take-append_seam table rest)) c.fill.ensures
