use Rattle.std.proofs.Common.{◌∙◌, map, string_bytes}
use Rattle.std.proofs.lemmas.Result.{IfOk-weaker}
use Rattle.clap.specs.Matches.{found_of}
use Rattle.clap.specs.Simple.{app_of}
use Rattle.clap.specs.Walk.{rows_of}
use Rattle.command_line.proofs.Parsed.{args_of-failed, args_of-parsed, refused-other}
use Rattle.command_line.proofs.reading.args.Goals as goal

pub returns-in_err-matches-clause-refused : goal.returns-in_err-matches-clause-refused
returns-in_err-matches-clause-refused c =
    λ refused. args_of-failed (app_of c.in_ok-command.command) (map string_bytes c.args.words.now) c.in_err-matches.field-0.0
    c.in_ok-command.ensures c.in_err-matches.ensures.kinds
    (refused-other c.in_err-matches.field-0.0 c.from_residual-in_err-matches.result c.from_residual-in_err-matches.ensures.1 refused)

pub returns-clause-taken : goal.returns-clause-taken
returns-clause-taken c =
    let same = args_of-parsed (app_of c.in_ok-command.command) (map string_bytes c.args.words.now) (rows_of (found_of c.in_ok-matches.matches))
    c.in_ok-command.ensures c.in_ok-matches.ensures.kinds (λ simple. (c.in_ok-matches.ensures.matches simple).0) in
    IfOk-weaker c.args_in.result _ _ (λ args asked. same ∙ asked) c.args_in.ensures.taken

pub returns-clause-refused : goal.returns-clause-refused
returns-clause-refused c =
    let same = args_of-parsed (app_of c.in_ok-command.command) (map string_bytes c.args.words.now) (rows_of (found_of c.in_ok-matches.matches))
    c.in_ok-command.ensures c.in_ok-matches.ensures.kinds (λ simple. (c.in_ok-matches.ensures.matches simple).0) in
    λ refused. same ∙ c.args_in.ensures.refused refused
