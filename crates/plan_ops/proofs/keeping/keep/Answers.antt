use Rattle.std.proofs.Common.{◌≡◌, ◌∙◌, ap, sym, subst, length, All}
use Rattle.plan_ops.specs.Over.{bound_set, set_of}
use Rattle.plan_ops.proofs.MeetFacts.{kept_wide}
use Rattle.beas_core.specs.Extensions.{keep_met, meets_bound}
use Rattle.plan_ops.proofs.keeping.keep.Goals as goal

pub returns-clause-over : goal.returns-clause-over
returns-clause-over c = record {
  classes_are = c.requires.classes_are;
  widths = subst (All (λ row. length row ≡ length c.args.from.now.classes))
      (sym (c.keep_all.ensures ∙ ap (λ cs. keep_met c.args.block.now (set_of c.args.block.now cs) c.args.from.now.rows) c.as_slice.ensures))
      (kept_wide (length c.args.from.now.classes) (meets_bound c.args.block.now (bound_set c.args.block.now c.args.from.now)) c.args.from.now.rows
      c.requires.widths);
}
