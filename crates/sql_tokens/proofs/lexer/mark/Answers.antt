use Rattle.std.proofs.Common.{◌≡◌, ◌≤◌, ◌<◌, ◌+◌, ◌-◌, drop, take, length, arith, ap, subst, refl, ◌∙◌, List, ℕ}
use Rattle.std.specs.Prelude.{Some, None, IsUtf8, get_or, IsCharBoundary, eqb, find, slice_range}
use Rattle.std.specs.List.{prefix_len, starts_with}
use Rattle.std.proofs.lemmas.Bool.{eq-eqb, ne_eqb}
use Rattle.std.proofs.lemmas.Result.{IfOk-weaker}
use Rattle.std.proofs.lemmas.Str.{IsCharBoundary-after_ascii}
use Rattle.sql_tokens.specs.Cuts.{StandsAt, mark_of}
use Rattle.sql_tokens.specs.Tokens.{continues_char, marks}
use Rattle.sql_tokens.proofs.ByteKinds.{by_kind}
use Rattle.sql_tokens.proofs.Leads.{stands-mark, stands-bad_char, char-cut}
use Rattle.sql_tokens.proofs.lexer.mark.Goals as goal

mark-cut :
    (s : List ℕ) (at len : ℕ) → IsUtf8 s → 0 < len → at + len ≤ length s → get_or s (at + len - 1) 0 < 128 → IsCharBoundary s (at + len)
mark-cut s at len u some within low =
    let cut : IsCharBoundary s (at + len - 1 + 1) = IsCharBoundary-after_ascii s (at + len - 1) u (omega arith) low in
    let place : at + len - 1 + 1 ≡ at + len = omega arith in
    subst (λ (k : ℕ). IsCharBoundary s k) place cut

mark-some : (at len : ℕ) (s : List ℕ) → 0 < len → mark_of len (drop at s) ≡ Some (slice_range s at (at + len))
mark-some at len s some =
    let n : len ≡ at + len - at = omega arith in
    rw (ne_eqb len 0 (λ e. omega arith)) (ap (λ (k : ℕ). Some (take k (drop at s))) n)

mark-none : (at len : ℕ) (s : List ℕ) → len ≤ 0 → mark_of len (drop at s) ≡ None
mark-none at len s none = rw (eq-eqb len 0 (omega arith)) refl

pub plain-requires-clause-last : goal.plain-requires-clause-last
plain-requires-clause-last c =
    let s = c.args.source.now in
    let len = c.mark_len-len.result in
    let low : get_or s (c.args.at + len - 1) 0 < 128 =
    rw c.as_bytes-bytes.ensures.value at (c.mark_len-len.ensures.ascii (omega arith)) in
    mark-cut s c.args.at len c.utf8.source (omega arith) (omega arith) low

pub returns-then-len-gt0 : goal.returns-then-len-gt0
returns-then-len-gt0 c =
    let s = c.args.source.now in
    let other = (by_kind (get_or s c.args.at 0)).other c.requires.other in
    let known : find (starts_with eqb (drop c.args.at s)) marks ≡ mark_of c.mark_len-len.result (drop c.args.at s) = cc in
    let low : get_or s (c.args.at + c.mark_len-len.result - 1) 0 < 128 =
    rw c.as_bytes-bytes.ensures.value at (c.mark_len-len.ensures.ascii (omega arith)) in
    IfOk-weaker c.plain.result _ (StandsAt s c.args.at)
    (λ t e. stands-mark s c.args.at _ t c.requires.begins other.0 other.1 c.requires.no_quote (omega arith) (omega arith)
    (mark-cut s c.args.at c.mark_len-len.result c.utf8.source (omega arith) (omega arith) low)
    (known ∙ mark-some c.args.at c.mark_len-len.result s (omega arith)) e) c.plain.ensures

pub plain-requires-2-clause-last : goal.plain-requires-2-clause-last
plain-requires-2-clause-last c =
    let s = c.args.source.now in
    let run : c.run_end.result ≡ c.args.at + 1 + prefix_len continues_char (drop (c.args.at + 1) s) = cc in
    char-cut s (c.args.at + 1) _ (omega arith) run

pub returns : goal.returns
returns c =
    let s = c.args.source.now in
    let run : c.run_end.result ≡ c.args.at + 1 + prefix_len continues_char (drop (c.args.at + 1) s) = cc in
    let other = (by_kind (get_or s c.args.at 0)).other c.requires.other in
    let known : find (starts_with eqb (drop c.args.at s)) marks ≡ mark_of c.mark_len-len.result (drop c.args.at s) = cc in
    IfOk-weaker c.plain-2.result _ (StandsAt s c.args.at)
    (λ t e. stands-bad_char s c.args.at _ t c.requires.begins other.0 other.1 c.requires.no_quote run
    (known ∙ mark-none c.args.at c.mark_len-len.result s (omega arith)) e) c.plain-2.ensures
