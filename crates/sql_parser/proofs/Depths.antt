-- The walk over the tokens, step by step.
use Rattle.std.proofs.Common.{◌≡◌, ◌≤◌, ◌<◌, ℕ, true, false, List, [], ◌∷◌, max, refl, sym, ap, inl, inr, cond, get_or, drop, length, ◌+◌, ◌∙◌, arith}
use Rattle.std.specs.Prelude.{◌||◌, Bool, codes, nat_lt}
use Rattle.std.proofs.lemmas.List.{at_drop_more}
use Rattle.sql_tokens.specs.declared.token.Token.{Token}
use Rattle.sql_text.specs.Symbols.{Symbol, depth_from, depth_after, joins_after, joins_blocks, symbol_of, symbols, is_word}
use Rattle.token_reader.specs.Reading.{has_group}
use Rattle.std.proofs.lemmas.Bool.{lt-ltb, le-ltb, cases_lt}

pub depth-at_least : (depth joins : ℕ) (symbols : List Symbol) → depth ≤ depth_from depth joins symbols
depth-at_least depth joins [] = omega arith
depth-at_least depth joins (s ∷ rest) = omega arith

passes : (d x : ℕ) → d ≤ 32 → nat_lt 32 (max d x) ≡ nat_lt 32 x
passes d x le =
    elim (cases_lt 32 x) [
      | inl lt ↦ lt-ltb 32 (max d x) (omega arith) ∙ sym (lt-ltb 32 x lt)
      | inr ge ↦ le-ltb 32 (max d x) (omega arith) ∙ sym (le-ltb 32 x ge)
    ]

-- a token that isn't too deep passes the question on to those after it
pub one_deeper : (d j : ℕ) (s : Symbol) (rest : List Symbol) → d ≤ 32
    → nat_lt 32 (depth_from d j (s ∷ rest)) ≡ nat_lt 32 (depth_from (depth_after d j s) (joins_after j s) rest)
one_deeper d j s rest le = passes d (depth_from (depth_after d j s) (joins_after j s) rest) le

pub too_deep : (d j : ℕ) (rest : List Symbol) → 32 < d → nat_lt 32 (depth_from d j rest) ≡ true
too_deep d j rest lt = lt-ltb 32 (depth_from d j rest) (omega (arith, depth-at_least d j rest))

pub joins_rise : (j : ℕ) (s : Symbol) → joins_after j s ≤ j + 1
joins_rise j s = elim (joins_blocks s) as (λ b. cond b (j + 1) j ≤ j + 1) [ true ↦ omega arith | false ↦ omega arith ]

pub nothing_deep : (d j : ℕ) → d ≤ 32 → nat_lt 32 (depth_from d j []) ≡ false
nothing_deep d j le = le-ltb 32 d le

pub too_deep_here : (tokens : List Token) (i : ℕ) (token : Token) (d j next : ℕ) → token ≡ get_or tokens i token → i < length tokens → d ≤ 32
    → next ≡ depth_after d j (symbol_of token.kind token.text) → 32 < next → nat_lt 32 (depth_from d j (symbols (drop i tokens))) ≡ true
too_deep_here tokens i token d j next e lt le n deep =
    let s = symbol_of token.kind token.text in
    let rest = symbols (drop (i + 1) tokens) in
    let deeper : 32 < depth_after d j s = omega (arith, n) in
    at_drop_more (λ ts. nat_lt 32 (depth_from d j (symbols ts))) tokens i token lt
    ∙ ap (λ t. nat_lt 32 (depth_from d j (symbols (t ∷ drop (i + 1) tokens)))) (sym e)
    ∙ one_deeper d j s rest le ∙ too_deep (depth_after d j s) (joins_after j s) rest deeper

-- ---- one step of the look

pub depth_on : (tokens : List Token) (i : ℕ) (token : Token) (d j d2 j2 : ℕ) → token ≡ get_or tokens i token → i < length tokens → d ≤ 32
    → d2 ≡ depth_after d j (symbol_of token.kind token.text) → j2 ≡ joins_after j (symbol_of token.kind token.text)
    → nat_lt 32 (depth_from d2 j2 (symbols (drop (i + 1) tokens))) ≡ nat_lt 32 (depth_from d j (symbols (drop i tokens)))
depth_on tokens i token d j d2 j2 e lt le n m =
    let s = symbol_of token.kind token.text in
    let rest = symbols (drop (i + 1) tokens) in
    ap (λ x. nat_lt 32 (depth_from x j2 rest)) n ∙ ap (λ y. nat_lt 32 (depth_from (depth_after d j s) y rest)) m
    ∙ sym (at_drop_more (λ ts. nat_lt 32 (depth_from d j (symbols ts))) tokens i token lt
    ∙ ap (λ t. nat_lt 32 (depth_from d j (symbols (t ∷ drop (i + 1) tokens)))) (sym e) ∙ one_deeper d j s rest le)

or_assoc : (a b c : Bool) → ((a || b) || c) ≡ (a || (b || c))
or_assoc true b c = refl
or_assoc false b c = refl

pub group_on : (tokens : List Token) (i : ℕ) (token : Token) (g g2 : Bool) → token ≡ get_or tokens i token → i < length tokens
    → g2 ≡ (g || is_word (codes "group") (symbol_of token.kind token.text))
    → (g2 || has_group (symbols (drop (i + 1) tokens))) ≡ (g || has_group (symbols (drop i tokens)))
unfolding has_group
group_on tokens i token g g2 e lt n =
    let here = is_word (codes "group") (symbol_of token.kind token.text) in
    let rest = has_group (symbols (drop (i + 1) tokens)) in
    ap (λ b. b || rest) n ∙ or_assoc g here rest
    ∙ ap (λ b. g || b) (sym (at_drop_more (λ ts. has_group (symbols ts)) tokens i token lt
    ∙ ap (λ t. has_group (symbols (t ∷ drop (i + 1) tokens))) (sym e)))
