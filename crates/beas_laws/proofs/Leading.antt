-- What the spelling of a lexeme begins with, before bytes that end it.
use Rattle.std.proofs.Common.{◌≡◌, ℕ, Bool, true, false, List, [], ◌∷◌, ◌++◌, length, refl, ap, ◌∙◌, inl, inr, arith}
use Rattle.std.specs.Prelude.{codes, eqb, ◌||◌, ◌==◌, map, take_while, Some}
use Rattle.std.specs.List.{list_all, starts_with}
use Rattle.std.specs.Char.{is_ascii_digit, is_ascii_whitespace, to_ascii_lowercase}
use Rattle.std.proofs.lemmas.Bool.{cases_Bool, cond-false, and_parts, eqb-true, le-ltb}
use Rattle.std.proofs.lemmas.Bool.Decides.{nat_tests}
use Rattle.std.proofs.lemmas.List.Sums.{take_while-cons}
use Rattle.sql_tokens.specs.declared.token.TokenKind.TheVariants.{Word, Number, Quoted, Bad}
use Rattle.beas_core.specs.Spelling.{begins_word, continues_word}
use Rattle.sql_tokens.specs.Tokens.{lead, plain, word as word_lead, in_quotes, with_quotes_doubled, quoted_text, quoted_or_bad, longest_word, quote}
use Rattle.sql_tokens.specs.Tokens.Lead.{Lexeme}
use Rattle.sql_tokens.proofs.Leads.{lead-word, lead-number, lead-quoted, digit-no_word}
use Rattle.beas_laws.proofs.Lexicals.{IsWordText, IsDigitText, run_first}

-- nothing, or a space, a closing parenthesis, a comma or a point
abbrev pub ends : List ℕ → Bool
ends [] = true
ends (b ∷ bs) = b == 32 || b == 41 || b == 44 || b == 46

first-not : (p : ℕ → Bool) (bytes : List ℕ) → ((b : ℕ) → (b == 32 || b == 41 || b == 44 || b == 46) ≡ true → p b ≡ false) → ends bytes ≡ true
    → take_while p bytes ≡ []
first-not p [] h e = refl
first-not p (b ∷ bs) h e = take_while-cons p b bs ∙ cond-false (p b) (b ∷ take_while p bs) [] (h b e)

run-ends : (p : ℕ → Bool) (text rest : List ℕ) → list_all p text ≡ true → take_while p rest ≡ [] → take_while p (text ++ rest) ≡ text
run-ends p [] rest h e = e
run-ends p (b ∷ bs) rest h e =
    let parts = and_parts (p b) (list_all p bs) h in
    run_first p b (bs ++ rest) parts.0 ∙ ap (λ more. b ∷ more) (run-ends p bs rest parts.1 e)

ends-no_word : (b : ℕ) → (b == 32 || b == 41 || b == 44 || b == 46) ≡ true → continues_word b ≡ false
ends-no_word b h = grind (arith, nat_tests)

ends-no_digit : (b : ℕ) → (b == 32 || b == 41 || b == 44 || b == 46) ≡ true → is_ascii_digit b ≡ false
ends-no_digit b h = grind (arith, nat_tests)

-- a word or a number is neither white space nor a comment
word-no_gap : (b : ℕ) → begins_word b ≡ true → is_ascii_whitespace b ≡ false
word-no_gap b h = grind (arith, nat_tests)

digit-no_gap : (b : ℕ) → is_ascii_digit b ≡ true → is_ascii_whitespace b ≡ false
digit-no_gap b h = grind (arith, nat_tests)

word-no_minus : (b : ℕ) → begins_word b ≡ true → eqb 45 b ≡ false
word-no_minus b h = grind (arith, nat_tests)

pub digit-no_minus : (b : ℕ) → is_ascii_digit b ≡ true → eqb 45 b ≡ false
digit-no_minus b h = grind (arith, nat_tests)

no_comment : (b : ℕ) (bs : List ℕ) → eqb 45 b ≡ false → starts_with eqb (b ∷ bs) (codes "--") ≡ false
no_comment b bs e = rw e refl

pub lead-of_word : (b : ℕ) (bs rest : List ℕ) → IsWordText (b ∷ bs) → ends rest ≡ true
    → lead (b ∷ (bs ++ rest)) ≡ Lexeme Word (length (b ∷ bs)) (map to_ascii_lowercase (b ∷ bs))
lead-of_word b bs rest h e =
    lead-word (b ∷ (bs ++ rest)) (omega arith) (word-no_gap b h.first) (no_comment b (bs ++ rest) (word-no_minus b h.first)) h.first
    ∙ ap word_lead (run-ends continues_word (b ∷ bs) rest h.each (first-not continues_word rest ends-no_word e))
    ∙ cond-false _ (plain Bad (b ∷ bs)) (Lexeme Word (length (b ∷ bs)) (map to_ascii_lowercase (b ∷ bs))) (le-ltb longest_word (length (b ∷ bs)) h.short)

pub lead-of_number : (b : ℕ) (bs rest : List ℕ) → IsDigitText (b ∷ bs) → ends rest ≡ true → lead (b ∷ (bs ++ rest)) ≡ Lexeme Number (length (b ∷ bs)) (b ∷ bs)
lead-of_number b bs rest h e =
    lead-number (b ∷ (bs ++ rest)) (omega arith) (digit-no_gap b h.first) (no_comment b (bs ++ rest) (digit-no_minus b h.first)) (digit-no_word b h.first)
    h.first
    ∙ ap (plain Number) (run-ends is_ascii_digit (b ∷ bs) rest h.each (first-not is_ascii_digit rest ends-no_digit e))

-- a text between quotes
ends-no_quote : (b : ℕ) → (b == 32 || b == 41 || b == 44 || b == 46) ≡ true → eqb b quote ≡ false
ends-no_quote b h = grind (arith, nat_tests)

text-ends : (rest : List ℕ) → ends rest ≡ true → quoted_text (quote ∷ rest) ≡ Some []
text-ends [] e = refl
text-ends (b ∷ bs) e = rw (ends-no_quote b e) refl

text-more : (b : ℕ) (bytes text : List ℕ) → eqb b quote ≡ false → quoted_text bytes ≡ Some text → quoted_text (b ∷ bytes) ≡ Some (b ∷ text)
text-more b [] text e h = cc
text-more b (c ∷ bytes) text e h = rw (e, h) refl

text-doubled : (bytes text : List ℕ) → quoted_text bytes ≡ Some text → quoted_text (quote ∷ quote ∷ bytes) ≡ Some (quote ∷ text)
text-doubled bytes text h = rw h refl

text-read : (text rest : List ℕ) → ends rest ≡ true → quoted_text ((with_quotes_doubled text ++ quote ∷ []) ++ rest) ≡ Some text
text-read [] rest e = text-ends rest e
text-read (b ∷ bs) rest e =
    let bytes : List ℕ = (with_quotes_doubled bs ++ quote ∷ []) ++ rest in
    let more : quoted_text bytes ≡ Some bs = text-read bs rest e in
    elim (cases_Bool (eqb b quote)) [
      | inl q ↦ rw (eqb-true b quote q) (text-doubled bytes bs more)
      | inr q ↦ rw q (text-more b bytes bs q more)
    ]

pub lead-of_quoted : (text rest : List ℕ) → ends rest ≡ true → lead (in_quotes text ++ rest) ≡ Lexeme Quoted (length (in_quotes text)) text
lead-of_quoted text rest e =
    lead-quoted (in_quotes text ++ rest) (omega arith) refl ∙ ap (quoted_or_bad (in_quotes text ++ rest)) (text-read text rest e)
