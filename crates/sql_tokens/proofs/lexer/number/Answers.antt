use Rattle.std.proofs.Common.{◌≡◌, ◌≤◌, ◌+◌, drop, length, arith}
use Rattle.std.specs.Char.{is_ascii_digit}
use Rattle.std.specs.List.{prefix_len}
use Rattle.std.proofs.lemmas.Result.{IfOk-weaker}
use Rattle.sql_tokens.specs.Cuts.{StandsAt}
use Rattle.sql_tokens.proofs.Leads.{stands-number, run-cut, digit-ascii}
use Rattle.sql_tokens.proofs.lexer.number.Goals as goal

pub plain-requires-clause-last : goal.plain-requires-clause-last
plain-requires-clause-last c =
    let s = c.args.source.now in
    let run : c.run_end-to.result ≡ c.args.at + prefix_len is_ascii_digit (drop c.args.at s) = cc in
    run-cut is_ascii_digit digit-ascii s c.args.at _ c.utf8.source c.requires.begins.within c.requires.class run

pub returns : goal.returns
returns c =
    let s = c.args.source.now in
    let run : c.run_end-to.result ≡ c.args.at + prefix_len is_ascii_digit (drop c.args.at s) = cc in
    let within : c.run_end-to.result ≤ length s = omega arith in
    IfOk-weaker c.plain.result _ (StandsAt s c.args.at)
    (λ t e. stands-number s c.args.at _ t c.utf8.source c.requires.begins c.requires.class run within e) c.plain.ensures
