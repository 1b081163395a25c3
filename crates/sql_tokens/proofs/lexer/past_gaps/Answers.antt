use Rattle.std.proofs.Common.{◌≡◌, ◌<◌, ◌≤◌, ◌+◌, true, length, drop, arith}
use Rattle.std.specs.Prelude.{codes, eqb}
use Rattle.std.specs.Char.{is_ascii_whitespace}
use Rattle.std.specs.List.{prefix_len, starts_with}
use Rattle.sql_tokens.specs.Tokens.{is_in_line}
use Rattle.sql_tokens.proofs.Steps.{past_blanks, past_comment}
use Rattle.sql_tokens.proofs.lexer.past_gaps.Goals as goal

pub loop-to-init : goal.loop-to-init
loop-to-init c =
    let s = c.args.source.now in
    let run : c.run_end-to.result ≡ c.args.at + prefix_len is_ascii_whitespace (drop c.args.at s) = cc in
    past_blanks s c.args.at c.run_end-to.result c.utf8.source c.requires.within c.requires.cut run

pub loop-to-preserved : goal.loop-to-preserved
loop-to-preserved c =
    let s = c.args.source.now in
    let line = c.run_end-line_end.result in
    let to = c.run_end-to-in-loop-to.result in
    let comment : starts_with eqb (drop c.loop-to.to s) (codes "--") ≡ true = cc in
    let run : line ≡ c.loop-to.to + prefix_len is_in_line (drop c.loop-to.to s) = cc in
    let blanks : to ≡ line + prefix_len is_ascii_whitespace (drop line s) = cc in
    let below : c.loop-to.to < length s = omega arith in
    let within : line ≤ length s = omega arith in
    past_comment s c.args.at c.loop-to.to line to c.utf8.source c.loop-to.invariant below comment run within blanks
