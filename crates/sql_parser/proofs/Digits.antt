-- Digits that begin with no zero.
use Rattle.std.proofs.Common.{◌≡◌, ◌≢◌, ℕ, Bool, true, false, cond, eqb, List, [], ◌∷◌, Option, None, MatchOption, Bor, refl, ap, subst}
use Rattle.std.proofs.lemmas.Bool.{eqb-true}
use Rattle.sql_text.specs.Grammar.{significant_digits}

pub keeps : (digits : List ℕ) → ((rest : List ℕ) → digits ≡ 48 ∷ rest → ⊥) → significant_digits digits ≡ digits
keeps [] h = refl
keeps (d ∷ []) h = refl
keeps (d ∷ e ∷ ds) h =
    let go : (b : Bool) → eqb d 48 ≡ b → cond b (significant_digits (e ∷ ds)) (d ∷ e ∷ ds)
    ≡ d ∷ e ∷ ds = λ b. elim b as (λ b. eqb d 48 ≡ b → cond b (significant_digits (e ∷ ds)) (d ∷ e ∷ ds) ≡ d ∷ e ∷ ds) [
      | true ↦ λ t. absurd (h (e ∷ ds) (ap (λ n. n ∷ e ∷ ds) (eqb-true d 48 t)))
      | false ↦ λ t. refl
    ] in
    go (eqb d 48) refl

pub keeps_none : (digits : List ℕ) (found : Option (Bor (List ℕ))) → found ≡ None
    → MatchOption found ((rest : List ℕ) → digits ≢ 48 ∷ rest) (λ x. digits ≡ 48 ∷ x.now) → significant_digits digits ≡ digits
keeps_none digits found e h =
    let other : MatchOption None ((rest : List ℕ) → digits ≢ 48 ∷ rest) (λ (x : Bor (List ℕ)). digits ≡ 48 ∷ x.now) = subst
    (λ o. MatchOption o ((rest : List ℕ) → digits ≢ 48 ∷ rest) (λ (x : Bor (List ℕ)). digits ≡ 48 ∷ x.now)) e h in
    keeps digits other
