use Rattle.std.proofs.Common.{ap, ◌∙◌}
use Rattle.access_index.specs.Hashing.{or_zero}
use Rattle.code_index.specs.Codes.{value_of}
use Rattle.code_index.proofs.CodeFacts.{zero_at}
use Rattle.code_index.proofs.interner.Interner.get.Goals as goal

pub returns-clause-value : goal.returns-clause-value
returns-clause-value c =
    ap or_zero c.get_index.ensures.key ∙ zero_at c.self.inside.values.keys c.args.code ∙ ap (λ keys. value_of keys c.args.code) c.self.view_is
