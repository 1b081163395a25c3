use Rattle.std.proofs.Common.{ap, sym, ◌∙◌}
use Rattle.beas_core.specs.Order.{value_cmp}
use Rattle.code_index.specs.Codes.{value_of}
use Rattle.code_index.proofs.ReadFacts.{value_itself}
use Rattle.code_index.proofs.codes.compare_codes.Goals as goal

pub returns-then-left-right : goal.returns-then-left-right
returns-then-left-right c =
    sym (value_itself (value_of c.args.codes.now c.args.left)) ∙ ap (λ w. value_cmp (value_of c.args.codes.now c.args.left) (value_of c.args.codes.now w)) c.if-left-right.true
