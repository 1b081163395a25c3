use Rattle.std.proofs.Common.{◌≡◌, ◌≤◌, ◌++◌, [], length, sym, ap, subst, ◌∙◌, arith, List}
use Rattle.std.specs.Prelude.{All}
use Rattle.std.proofs.lemmas.Str.{IsCharBoundary-start}
use Rattle.sql_tokens.specs.declared.token.Token.{Token}
use Rattle.sql_tokens.specs.Spans.{AreInOrder, IsSpelled}
use Rattle.sql_tokens.specs.Pieces.{tokens_past}
use Rattle.sql_tokens.specs.Tokens.{tokens_of}
use Rattle.sql_tokens.proofs.Spans.{tokens_of-in_order, tokens_of-spelled, length-tokens_of}
use Rattle.sql_tokens.proofs.Steps.{more_tokens, tokens_past-none}
use Rattle.sql_tokens.proofs.lexer.lex.Goals as goal

pub past_gaps-at-requires-clause-cut : goal.past_gaps-at-requires-clause-cut
past_gaps-at-requires-clause-cut c = IsCharBoundary-start c.args.source.now c.utf8.source

pub loop-at-init : goal.loop-at-init
loop-at-init c =
    let s = c.args.source.now in
    let none : c.new-tokens.result ≡ [] = c.new-tokens.ensures in
    record {
      open_at = c.past_gaps-at.ensures.at_token;
      known = ap (λ (tokens : List Token). tokens ++ tokens_past c.past_gaps-at.result s) none ∙ sym c.past_gaps-at.ensures.tokens;
    }

pub loop-at-preserved : goal.loop-at-preserved
loop-at-preserved c =
    let s = c.args.source.now in
    let gaps = c.past_gaps-at-in-loop-at in
    record {
      open_at = gaps.ensures.at_token;
      known = ap (λ (tokens : List Token). tokens ++ tokens_past gaps.result s) c.in_ok-push.ensures.ok
          ∙ more_tokens s (tokens_of s) c.loop-at.tokens c.loop-at.at gaps.result c.in_ok-token.token c.in_ok-token.ensures gaps.ensures.tokens
          c.loop-at.invariant.known;
    }

pub returns-clause-tokens : goal.returns-clause-tokens
returns-clause-tokens c =
    tokens_past-none c.args.source.now c.loop-at.at c.loop-at.tokens (omega arith) ∙ c.loop-at.invariant.known

pub returns-clause-in_order : goal.returns-clause-in_order
returns-clause-in_order c =
    let s = c.args.source.now in
    let known : c.loop-at.tokens ≡ tokens_of s = returns-clause-tokens c in
    subst (λ (tokens : List Token). AreInOrder 0 tokens (length s)) (sym known) (tokens_of-in_order s)

pub returns-clause-spelled : goal.returns-clause-spelled
returns-clause-spelled c =
    let s = c.args.source.now in
    let known : c.loop-at.tokens ≡ tokens_of s = returns-clause-tokens c in
    subst (λ (tokens : List Token). All (IsSpelled s) tokens) (sym known) (tokens_of-spelled s)

pub returns-clause-few : goal.returns-clause-few
returns-clause-few c =
    let s = c.args.source.now in
    let known : c.loop-at.tokens ≡ tokens_of s = returns-clause-tokens c in
    subst (λ (tokens : List Token). length tokens ≤ length s) (sym known) (length-tokens_of s)
