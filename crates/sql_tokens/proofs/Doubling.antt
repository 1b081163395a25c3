-- How a text is doubled, part by part.
use Rattle.std.proofs.Common.{◌≡◌, ◌++◌, ◌∷◌, [], List, ℕ, ◌<◌, length, get_or, refl, ap, ◌∙◌, sym, arith, eqb, false, append_assoc, append-nil, suc, Option, Some, None}
use Rattle.std.specs.Prelude.{◌≢◌}
use Rattle.std.specs.Borrow.{Bor}
use Rattle.std.proofs.lemmas.Bool.Decides.{nat_tests}
use Rattle.std.proofs.lemmas.Str.Pattern.{split_parts, IsSplitOnceResult}
use Rattle.sql_tokens.specs.Tokens.{with_quotes_doubled}

-- a text without a quote stays as it is
doubled_front : (front back : List ℕ) → ((i : ℕ) → i < length front → get_or front i 0 ≢ 39) → with_quotes_doubled (front ++ back) ≡ front
    ++ with_quotes_doubled back
doubled_front [] back none = refl
doubled_front (x ∷ front) back none =
    let at : x ≡ 39 → ⊥ = λ e. none 0 (omega arith) e in
    let here : eqb x 39 ≡ false = grind (arith, nat_tests) in
    let rest : with_quotes_doubled (front ++ back) ≡ front ++ with_quotes_doubled back = doubled_front front back (λ i h. none (suc i) (omega arith)) in
    rw here (ap (λ ys. x ∷ ys) rest)

-- a text is doubled at its first quote
pub doubled_parts : (front back : List ℕ) → ((i : ℕ) → i < length front → get_or front i 0 ≢ 39)
    → with_quotes_doubled (front ++ (39 ∷ back)) ≡ front ++ (39 ∷ 39 ∷ with_quotes_doubled back)
doubled_parts front back none = doubled_front front (39 ∷ back) none

-- one turn: a front without a quote is written, then two quotes
pub doubled_turn : (whole text words : List ℕ) (front back : Bor (List ℕ)) (r : Option (Bor (List ℕ) × Bor (List ℕ))) → IsSplitOnceResult 39 words r
    → r ≡ Some (front, back) → text ++ with_quotes_doubled words ≡ whole → (text ++ front.now ++ 39 ∷ 39 ∷ []) ++ with_quotes_doubled back.now ≡ whole
doubled_turn whole text words front back r split is e =
    let parts = split_parts 39 words r split (omega arith) in
    let at = rw is at parts in
    let one = doubled_parts front.now back.now at.1 in
    let two = ap with_quotes_doubled at.0 ∙ one in
    simp append_assoc (ap (λ ys. text ++ ys) (sym two) ∙ e)

-- with no quote in it the rest stays as it is
pub doubled_end : (words : List ℕ) (r : Option (Bor (List ℕ) × Bor (List ℕ))) → IsSplitOnceResult 39 words r → r ≡ None → with_quotes_doubled words ≡ words
doubled_end words None split is =
    let parts = split_parts 39 words None split (omega arith) in
    sym (ap with_quotes_doubled (append-nil words)) ∙ doubled_front words [] parts ∙ append-nil words
doubled_end words (Some p) split is = cc
