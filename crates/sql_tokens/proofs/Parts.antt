-- The lists between semicolons, and the places where they stand.
use Rattle.std.proofs.Common.{◌≡◌, ℕ, suc, ◌+◌, ◌-◌, ◌<◌, ◌≤◌, List, [], ◌∷◌, ◌++◌, length, take, drop, refl, sym, ap, subst, ◌∙◌, inl, inr, arith, length-drop}
use Rattle.std.specs.Prelude.{All, filter, map, nat_lt, slice_range}
use Rattle.std.specs.List.{slice_split, onto_first, position_or_len}
use Rattle.std.proofs.lemmas.Bool.{cases_Bool, ltb-true, lt-ltb, le-ltb}
use Rattle.std.proofs.lemmas.List.{drop-drop, length-take-le}
use Rattle.std.proofs.lemmas.List.Elements.{All-nil, All-cons}
use Rattle.std.proofs.lemmas.List.Splits.{slice_split-cons_yes, slice_split-cons_no, slice_split_first, length-slice_split}
use Rattle.sql_tokens.specs.declared.token.Token.{Token}
use Rattle.sql_tokens.specs.declared.token.Piece.{Piece}
use Rattle.sql_tokens.specs.declared.token.TokenKind.TheVariants.{Bad}
use Rattle.sql_tokens.specs.Pieces.{is_semicolon, places, without_empty, pieces_of, statements_of}

-- where no token is a semicolon, the list is the one part
slice_split-none : (ts : List Token) → position_or_len is_semicolon ts ≡ length ts → slice_split is_semicolon ts ≡ ts ∷ []
slice_split-none [] h = refl
slice_split-none (t ∷ ts) h =
    elim (cases_Bool (is_semicolon t)) [
      | inl e ↦ absurd (let none : position_or_len is_semicolon (t ∷ ts) ≡ 0 = rw e refl in omega (arith, h, none))
      | inr e ↦
          (let one : position_or_len is_semicolon (t ∷ ts) ≡ 1 + position_or_len is_semicolon ts = rw e refl in
          slice_split-cons_no is_semicolon t ts e
          ∙ ap (onto_first t) (slice_split-none ts (omega (arith, h, one))))
    ]

without_empty-cons : (p : Piece) (ps : List Piece) → without_empty (p ∷ ps) ≡ without_empty (p ∷ []) ++ without_empty ps
without_empty-cons p ps = elim (cases_Bool (nat_lt p.from p.to)) [ inl e ↦ rw e refl | inr e ↦ rw e refl ]

-- a list up to a semicolon
pub places-more :
    (ts : List Token) (from to : ℕ) → to ≡ from + position_or_len is_semicolon (drop from ts) → to < length ts →
    without_empty (places from (slice_split is_semicolon (drop from ts)))
    ≡ without_empty (record { from = from; to = to } ∷ [])
    ++ without_empty (places (to + 1) (slice_split is_semicolon (drop (to + 1) ts)))
places-more ts from to r l =
    let xs = drop from ts in
    let n = position_or_len is_semicolon xs in
    let in_rest : n < length xs = omega (arith, r, length-drop from ts) in
    let past : from + (n + 1) ≡ to + 1 = omega (arith, r) in
    let rest : drop (n + 1) xs ≡ drop (to + 1) ts = drop-drop (n + 1) from ts ∙ ap (λ (k : ℕ). drop k ts) past in
    let place : from + length (take n xs) ≡ to = omega (arith, r, length-take-le n xs (omega arith)) in
    let after = slice_split is_semicolon (drop (to + 1) ts) in
    let some : Token = record { kind = Bad; from = 0; to = 0; text = [] } in
    ap (λ (parts : List (List Token)). without_empty (places from parts))
    (slice_split_first is_semicolon xs some in_rest ∙ ap (λ (ys : List Token). take n xs ∷ slice_split is_semicolon ys) rest)
    ∙ ap (λ (k : ℕ). without_empty (record { from = from; to = k } ∷ places (k + 1) after)) place
    ∙ without_empty-cons (record { from = from; to = to }) (places (to + 1) after)

-- the list up to the end
pub places-last :
    (ts : List Token) (from to : ℕ) → from ≤ length ts → to ≡ from + position_or_len is_semicolon (drop from ts) → to ≡ length ts →
    without_empty (places from (slice_split is_semicolon (drop from ts))) ≡ without_empty (record { from = from; to = to } ∷ [])
places-last ts from to l r e =
    let n : length (drop from ts) ≡ to - from = omega (arith, length-drop from ts, e) in
    let place : from + length (drop from ts) ≡ to = omega (arith, length-drop from ts, e) in
    ap (λ (parts : List (List Token)). without_empty (places from parts))
    (slice_split-none (drop from ts) (omega (arith, r, length-drop from ts, e)))
    ∙ ap (λ (k : ℕ). without_empty (record { from = from; to = k } ∷ [])) place

-- the parts stand one after another in the list
abbrev pub Laid : List Token → ℕ → List (List Token) → Type 0
Laid all at [] = Unit {0}
Laid all at (part ∷ parts) =
    (slice_range all at (at + length part) ≡ part) × (at + length part ≤ length all) × Laid all (at + length part + 1) parts

laid-onto :
    (all : List Token) (at : ℕ) (x : Token) (parts : List (List Token)) → drop at all ≡ x ∷ drop (at + 1) all →
    0 < length parts → Laid all (at + 1) parts → Laid all at (onto_first x parts)
laid-onto all at x [] e l h = absurd (omega arith)
laid-onto all at x (part ∷ parts) e l h =
    let n = length part in
    let first : at + suc n - at ≡ suc n = omega arith in
    let second : n ≡ at + 1 + n - (at + 1) = omega arith in
    let place : at + 1 + n + 1 ≡ at + suc n + 1 = omega arith in (
      ap (λ (k : ℕ). take k (drop at all)) first ∙ ap (take (suc n)) e
          ∙ ap (λ (k : ℕ). x ∷ take k (drop (at + 1) all)) second ∙ ap (λ (ts : List Token). x ∷ ts) h.0,
      omega (arith, h.1),
      subst (λ (k : ℕ). Laid all k parts) place h.2,
    )

laid : (all : List Token) (at : ℕ) (xs : List Token) → drop at all ≡ xs → at ≤ length all → Laid all at (slice_split is_semicolon xs)
laid all at [] e l =
    let none : at + 0 - at ≡ 0 = omega arith in
    (ap (λ (k : ℕ). take k (drop at all)) none, omega arith, tt)
laid all at (x ∷ xs) e l =
    let more : at < length all = omega (arith, length-drop at all, ap length e) in
    let rest : drop (at + 1) all ≡ xs = sym (drop-drop 1 at all) ∙ ap (drop 1) e in
    let below = laid all (at + 1) xs rest (omega arith) in
    elim (cases_Bool (is_semicolon x)) [
      | inl y ↦
          (let none : at + 0 - at ≡ 0 = omega arith in
          let place : at + 1 ≡ at + 0 + 1 = omega arith in
          let Q : List (List Token) → Type 0 = λ parts. Laid all at parts in
          subst Q (sym (slice_split-cons_yes is_semicolon x xs y)) (
            ap (λ (k : ℕ). take k (drop at all)) none,
            omega arith,
            subst (λ (k : ℕ). Laid all k (slice_split is_semicolon xs)) place below,
          ))
      | inr y ↦
          (let Q : List (List Token) → Type 0 = λ parts. Laid all at parts in
          subst Q (sym (slice_split-cons_no is_semicolon x xs y))
          (laid-onto all at x (slice_split is_semicolon xs) (e ∙ ap (λ (ts : List Token). x ∷ ts) (sym rest))
          (omega (arith, length-slice_split is_semicolon xs)) below))
    ]

parts-from :
    (all : List Token) (at : ℕ) (parts : List (List Token)) → Laid all at parts →
    map (λ p. slice_range all p.from p.to) (without_empty (places at parts)) ≡ filter (λ part. nat_lt 0 (length part)) parts
parts-from all at [] h = refl
parts-from all at ([] ∷ parts) h =
    rw (le-ltb at (at + 0) (omega arith)) (parts-from all (at + 0 + 1) parts h.2)
parts-from all at ((t ∷ ts) ∷ parts) h =
    rw (lt-ltb at (at + suc (length ts)) (omega arith), lt-ltb 0 (suc (length ts)) (omega arith))
    (ap (λ (part : List Token). part ∷ map (λ p. slice_range all p.from p.to) (without_empty (places (at + suc (length ts) + 1) parts))) h.0
    ∙ ap (λ (more : List (List Token)). (t ∷ ts) ∷ more) (parts-from all (at + suc (length ts) + 1) parts h.2))

abbrev Within : List Token → Piece → Type 0
Within all p = (p.from < p.to) × (p.to ≤ length all)

within-from :
    (all : List Token) (at : ℕ) (parts : List (List Token)) → Laid all at parts →
    All (Within all) (without_empty (places at parts))
within-from all at [] h = All-nil (Within all)
within-from all at (part ∷ parts) h =
    let more = within-from all (at + length part + 1) parts h.2 in
    elim (cases_Bool (nat_lt at (at + length part))) [
      | inl e ↦ rw e (All-cons (Within all) (record { from = at; to = at + length part })
          (without_empty (places (at + length part + 1) parts)) (ltb-true at (at + length part) e, h.1) more)
      | inr e ↦ rw e more
    ]

pub parts_of :
    (all : List Token) → map (λ p. slice_range all p.from p.to) (pieces_of all) ≡ statements_of all
parts_of all = parts-from all 0 (slice_split is_semicolon all) (laid all 0 all refl (omega arith))

pub pieces-within : (all : List Token) → All (λ p. (p.from < p.to) × (p.to ≤ length all)) (pieces_of all)
pieces-within all = within-from all 0 (slice_split is_semicolon all) (laid all 0 all refl (omega arith))
