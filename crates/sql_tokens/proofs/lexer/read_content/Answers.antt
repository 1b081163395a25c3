use Rattle.std.proofs.Common.{◌≡◌, ◌+◌, ◌++◌, true, false, drop, length, sym, ap, subst, ◌∙◌, arith}
use Rattle.std.specs.Prelude.{List, ℕ, Some, slice_range, eqb, get_or}
use Rattle.std.specs.List.{prefix_len}
use Rattle.sql_tokens.specs.Tokens.{quote, with_quotes_doubled}
use Rattle.sql_tokens.proofs.Quotes.{unquoted, ReadUpTo, read-none, read-end, end-spelled, read-more, cut-before, cut-after}
use Rattle.sql_tokens.proofs.lexer.read_content.Goals as goal

pub returns-then-end-bytes-clause-text : goal.returns-then-end-bytes-clause-text
returns-then-end-bytes-clause-text c =
    let s = c.args.source.now in
    let run : length s ≡ c.loop-at.at + prefix_len unquoted (drop c.loop-at.at s) = cc in
    sym (read-none s c.args.from c.loop-at.at c.loop-at.text c.loop-at.invariant run)

pub range-requires-clause-end_boundary : goal.range-requires-clause-end_boundary
range-requires-clause-end_boundary c =
    let s = c.args.source.now in
    let run : c.run_end-end.result ≡ c.loop-at.at + prefix_len unquoted (drop c.loop-at.at s) = cc in
    cut-before s c.loop-at.at c.run_end-end.result run (omega arith) (omega arith)

pub returns-then-not-has_quote-clause-text : goal.returns-then-not-has_quote-clause-text
returns-then-not-has_quote-clause-text c =
    let s = c.args.source.now in
    let run : c.run_end-end.result ≡ c.loop-at.at + prefix_len unquoted (drop c.loop-at.at s) = cc in
    let no : eqb (get_or s (c.run_end-end.result + 1) 0) quote ≡ false = cc in
    let all : c.push_str.new.self ≡ c.loop-at.text ++ slice_range s c.loop-at.at c.run_end-end.result =
    c.in_ok-push_str.ensures.ok ∙ ap (λ (t : List ℕ). c.loop-at.text ++ t) c.range.ensures.value in
    ap (λ (t : List ℕ). Some t) all ∙ sym (read-end s c.args.from c.loop-at.at c.run_end-end.result c.loop-at.text c.loop-at.invariant run (omega arith) no)

pub returns-then-not-has_quote-clause-to : goal.returns-then-not-has_quote-clause-to
returns-then-not-has_quote-clause-to c =
    let s = c.args.source.now in
    let run : c.run_end-end.result ≡ c.loop-at.at + prefix_len unquoted (drop c.loop-at.at s) = cc in
    let all : c.push_str.new.self ≡ c.loop-at.text ++ slice_range s c.loop-at.at c.run_end-end.result =
    c.in_ok-push_str.ensures.ok ∙ ap (λ (t : List ℕ). c.loop-at.text ++ t) c.range.ensures.value in
    subst (λ (t : List ℕ). c.run_end-end.result + 1 ≡ c.args.from + length (with_quotes_doubled t) + 1) (sym all)
    (end-spelled s c.args.from c.loop-at.at c.run_end-end.result c.loop-at.text c.loop-at.invariant run (omega arith))

pub returns-then-not-has_quote-clause-end : goal.returns-then-not-has_quote-clause-end
returns-then-not-has_quote-clause-end c =
    let s = c.args.source.now in
    let run : c.run_end-end.result ≡ c.loop-at.at + prefix_len unquoted (drop c.loop-at.at s) = cc in
    cut-after s c.loop-at.at c.run_end-end.result c.utf8.source run (omega arith) (omega arith)

pub loop-at-preserved : goal.loop-at-preserved
loop-at-preserved c =
    let s = c.args.source.now in
    let run : c.run_end-end.result ≡ c.loop-at.at + prefix_len unquoted (drop c.loop-at.at s) = cc in
    let yes : eqb (get_or s (c.run_end-end.result + 1) 0) quote ≡ true = cc in
    let all : c.push_str-in-loop-at.new.self ≡ c.loop-at.text ++ slice_range s c.loop-at.at (c.run_end-end.result + 1) =
    c.in_ok-push_str-2.ensures.ok ∙ ap (λ (t : List ℕ). c.loop-at.text ++ t) c.range-in-loop-at.ensures.value in
    subst (ReadUpTo s c.args.from (c.run_end-end.result + 2)) (sym all)
    (read-more s c.args.from c.loop-at.at c.run_end-end.result c.loop-at.text c.utf8.source c.loop-at.invariant run (omega arith) yes)
