use Rattle.std.proofs.Common.{◌≡◌, ◌≤◌, ◌++◌, true, false, length, refl, sym, ap, subst, ◌∙◌, arith, List}
use Rattle.std.specs.Prelude.{All}
use Rattle.std.proofs.lemmas.List.Elements.{All-push}
use Rattle.sql_tokens.specs.declared.token.Token.{Token}
use Rattle.sql_tokens.specs.Pieces.{FirstPieceIs, is_semicolon, tokens_past}
use Rattle.sql_tokens.proofs.FirstPiece.{after, few_cut_off, first_on_error, first_piece, goes_on, going_on, no_semicolon, none_cut_off, one_cut_off}
use Rattle.sql_tokens.proofs.Steps.{more_tokens}
use Rattle.sql_tokens.proofs.piece_lexer.lex_piece.Goals as goal

pub tokens-preserved : goal.tokens-preserved
tokens-preserved c =
    let s = c.args.source.now in
    let place = c.tokens.place in
    let token = c.in_ok-token.token in
    let gaps = c.past_gaps-place-in-tokens in
    let test : goes_on place s ≡ true = rw c.as_bytes-bytes.ensures.value at (sym c.goes_on.ensures ∙ c.tokens-test.true) in
    let on = going_on s place test in
    record {
      order = omega (arith, c.tokens.invariant.order, c.in_ok-token.ensures.some, gaps.ensures.order);
      open_at = gaps.ensures.at_token;
      whole =
          subst (λ (tokens : List Token). All (λ token. is_semicolon token ≡ false) tokens) (sym c.in_ok-push.ensures.ok)
          (All-push (λ token. is_semicolon token ≡ false) c.tokens.tokens token c.tokens.invariant.whole
          (no_semicolon s place token on.0 c.in_ok-token.ensures on.1));
      known = ap (λ (tokens : List Token). tokens ++ tokens_past gaps.result s) c.in_ok-push.ensures.ok
          ∙ more_tokens s (tokens_past c.args.at s) c.tokens.tokens place gaps.result token c.in_ok-token.ensures gaps.ensures.tokens
          c.tokens.invariant.known;
    }

pub returns-in_err-token-clause-few : goal.returns-in_err-token-clause-few
returns-in_err-token-clause-few c = few_cut_off c.args.source.now c.args.at c.tokens.place c.tokens.tokens c.tokens.invariant.known

pub returns-in_err-token-clause-part : goal.returns-in_err-token-clause-part
returns-in_err-token-clause-part c =
    first_on_error c.args.source.now c.args.at c.tokens.place c.tokens.tokens c.tokens.tokens c.from_residual.result refl c.tokens.invariant.known

pub returns-in_err-push-clause-few : goal.returns-in_err-push-clause-few
returns-in_err-push-clause-few c =
    let few = few_cut_off c.args.source.now c.args.at c.tokens.place c.tokens.tokens c.tokens.invariant.known in
    subst (λ (tokens : List Token). length tokens ≤ length c.args.source.now) (sym c.in_err-push.ensures.err) few

pub returns-in_err-push-clause-part : goal.returns-in_err-push-clause-part
returns-in_err-push-clause-part c =
    first_on_error c.args.source.now c.args.at c.tokens.place c.tokens.tokens c.push.new.self c.from_residual-in_err-push.result
    c.in_err-push.ensures.err c.tokens.invariant.known

pub returns-clause-piece : goal.returns-clause-piece
returns-clause-piece c =
    let s = c.args.source.now in
    let place = c.tokens.place in
    let i = c.tokens.invariant in
    let test : goes_on place s ≡ false = rw c.as_bytes-bytes.ensures.value at (sym c.goes_on.ensures ∙ c.tokens-test.false) in
    let next : c.past_semicolon.result ≡ after place s = rw c.as_bytes-bytes.ensures.value at c.past_semicolon.ensures in
    subst (FirstPieceIs s c.args.at c.tokens.tokens) (sym next)
    (first_piece s c.args.at place c.tokens.tokens c.utf8.source i.order i.open_at test i.whole i.known)

pub returns-clause-none : goal.returns-clause-none
returns-clause-none c = λ none.
    none_cut_off c.args.source.now c.args.at c.tokens.tokens c.past_semicolon.result (returns-clause-piece c) none

pub returns-clause-some : goal.returns-clause-some
returns-clause-some c = λ some.
    one_cut_off c.args.source.now c.args.at c.tokens.tokens c.past_semicolon.result (returns-clause-piece c) some

pub returns-clause-few : goal.returns-clause-few
returns-clause-few c = few_cut_off c.args.source.now c.args.at c.tokens.place c.tokens.tokens c.tokens.invariant.known
