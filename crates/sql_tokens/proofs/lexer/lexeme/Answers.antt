use Rattle.std.proofs.Common.{◌≡◌, get_or}
use Rattle.std.proofs.lemmas.Result.{IfOk-weaker}
use Rattle.sql_tokens.specs.Cuts.{StandsAt, byte_kind}
use Rattle.sql_tokens.proofs.ByteKinds.{by_kind}
use Rattle.sql_tokens.proofs.Leads.{lone-cut, stands-lone}
use Rattle.sql_tokens.proofs.lexer.lexeme.Goals as goal

pub plain-requires-clause-last : goal.plain-requires-clause-last
plain-requires-clause-last c =
    let s = c.args.source.now in
    let kind : byte_kind (get_or s c.args.at 0) ≡ 1 = cc in
    lone-cut s c.args.at c.utf8.source c.requires.begins.within ((by_kind (get_or s c.args.at 0)).lone kind).2

pub returns-in-1 : goal.returns-in-1
returns-in-1 c =
    let s = c.args.source.now in
    let kind : byte_kind (get_or s c.args.at 0) ≡ 1 = cc in
    IfOk-weaker c.plain.result _ (StandsAt s c.args.at) (λ t e. stands-lone s c.args.at t c.utf8.source c.requires.begins kind e)
    c.plain.ensures
