use Rattle.std.proofs.Common.{◌≡◌, ◌≤◌, ◌+◌, drop, length, arith, sym}
use Rattle.std.specs.Prelude.{Some, None, IsCharBoundary}
use Rattle.std.proofs.lemmas.Result.{IfOk-weaker}
use Rattle.std.proofs.lemmas.Str.{IsCharBoundary-after_ascii}
use Rattle.sql_tokens.specs.Cuts.{StandsAt}
use Rattle.sql_tokens.specs.Tokens.{quoted_text, with_quotes_doubled}
use Rattle.sql_tokens.proofs.Leads.{stands-quoted, stands-unclosed}
use Rattle.sql_tokens.proofs.lexer.quoted_token.Goals as goal

pub read_content-requires-clause-cut : goal.read_content-requires-clause-cut
read_content-requires-clause-cut c =
    IsCharBoundary-after_ascii c.args.source.now c.args.at c.utf8.source c.requires.begins.within (omega arith)

pub returns-in-Some : goal.returns-in-Some
returns-in-Some c =
    let s = c.args.source.now in
    let content = c.in-Some.content in
    let text : Some content.text ≡ quoted_text (drop (c.args.at + 1) s) = rw c.in-Some.is at c.in_ok-content.ensures.text in
    let to : content.to ≡ c.args.at + 1 + length (with_quotes_doubled content.text) + 1 = rw c.in-Some.is at c.in_ok-content.ensures.to in
    let within : content.to ≤ length s = rw c.in-Some.is at c.in_ok-content.ensures.within in
    let cut : IsCharBoundary s content.to = rw c.in-Some.is at c.in_ok-content.ensures.end in
    stands-quoted s c.args.at content.to content.text c.token.result c.requires.begins.within c.requires.class (sym text) to within cut c.token.ensures

pub returns-in-None : goal.returns-in-None
returns-in-None c =
    let s = c.args.source.now in
    let text : None ≡ quoted_text (drop (c.args.at + 1) s) = rw c.in-None.is at c.in_ok-content.ensures.text in
    IfOk-weaker c.plain.result _ (StandsAt s c.args.at)
    (λ t e. stands-unclosed s c.args.at t c.requires.begins.within c.requires.class (sym text) e) c.plain.ensures
