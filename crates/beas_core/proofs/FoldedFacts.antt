-- Words in lower case, and the reserved words that begin with a letter.
use Rattle.std.proofs.Common.{◌≡◌, ◌<◌, ◌≤◌, ◌+◌, ◌%◌, ◌∙◌, refl, ap, sym, subst, true, false, ℕ, List, [], ◌∷◌, get_or, map, arith}
use Rattle.std.specs.Prelude.{◌&&◌, ◌||◌, ◌==◌, Bool, not, nat_le, length, slice_index}
use Rattle.std.specs.List.{list_all, list_any, filter, range_with_len}
use Rattle.std.specs.Char.{is_ascii_lowercase, is_ascii_uppercase}
use Rattle.std.specs.Str.{bytes_eq}
use Rattle.std.proofs.lemmas.Slice.Eq.{bytes_eq-Decides}
use Rattle.std.proofs.lemmas.Bool.{and_parts, eq-eqb, leb-true}
use Rattle.std.proofs.lemmas.Bool.Decides.{nat_tests}
use Rattle.std.proofs.Math.ListN.{get_or-eq_default}
use Rattle.std.proofs.lemmas.List.FromFn.{get_or-map-range_with_len}
use Rattle.std.proofs.lemmas.Map.Views.{any-filter_same}
use Rattle.beas_core.specs.Spelling.{begins_word, continues_word, is_folded, is_name, is_reserved, is_word, reserved_words}
use Rattle.beas_core.specs.FoldedWords.{goes_on_folded, is_folded_word}

both : (p q all any rest : Bool) → rest ≡ (all && not any) → ((p && not q) && rest) ≡ ((p && all) && not (q || any))
both false q all any rest e = refl
both true false all any rest e = e
both true true true any rest e = refl
both true true false any rest e = refl

all_both : (text : List ℕ) → list_all goes_on_folded text ≡ (list_all continues_word text && not (list_any is_ascii_uppercase text))
all_both [] = refl
all_both (c ∷ cs) = both (continues_word c) (is_ascii_uppercase c) (list_all continues_word cs) (list_any is_ascii_uppercase cs) (list_all goes_on_folded cs) (all_both cs)

regrouped : (begins goes folded fits : Bool) → (begins && (goes && folded) && fits) ≡ ((begins && goes && fits) && folded)
regrouped false goes folded fits = refl
regrouped true false folded fits = refl
regrouped true true true true = refl
regrouped true true true false = refl
regrouped true true false true = refl
regrouped true true false false = refl

outside : (word free reserved : Bool) → (word && free && reserved) ≡ ((word && free) && reserved)
outside false free reserved = refl
outside true free reserved = refl

pub name_told : (text : List ℕ) → is_name text ≡ (is_folded_word text && not (is_reserved text))
unfolding is_name
name_told text =
    let begins = begins_word (slice_index text 0) in
    let fits = nat_le (length text) 64 in
    outside (is_word text) (is_folded text) (not (is_reserved text))
    ∙ ap (λ b. b && not (is_reserved text))
    (sym (ap (λ b. begins && b && fits) (all_both text) ∙ regrouped begins (list_all continues_word text) (is_folded text) fits))

same_first : (r word : List ℕ) (first : ℕ) → slice_index word 0 ≡ first → r ≡ word → (slice_index r 0 == first) ≡ true
same_first r word first is e = eq-eqb (slice_index r 0) first (ap (λ (t : List ℕ). slice_index t 0) e ∙ is)

-- only the reserved words that begin as a word does can be that word
pub by_first : (word : List ℕ) (first : ℕ) → slice_index word 0 ≡ first
    → is_reserved word ≡ list_any (λ r. bytes_eq r word) (filter (λ r. slice_index r 0 == first) reserved_words)
unfolding is_reserved
by_first word first is =
    sym (any-filter_same (λ r. bytes_eq r word) (λ r. slice_index r 0 == first) true
    (λ r e. same_first r word first is ((bytes_eq-Decides r word).0 e)) reserved_words)

-- each reserved word begins with a small letter
pub no_letter : (word : List ℕ) → is_ascii_lowercase (slice_index word 0) ≡ false → is_reserved word ≡ false
unfolding is_reserved reserved_words
no_letter word none =
    sym (any-filter_same (λ r. bytes_eq r word) (λ r. not (is_ascii_lowercase (slice_index r 0))) true
    (λ r e. ap (λ (t : List ℕ). not (is_ascii_lowercase (slice_index t 0))) ((bytes_eq-Decides r word).0 e) ∙ ap not none) reserved_words)

-- for each letter, whether a word is one of the reserved words that begin with it
abbrev pub by_letter : List ℕ → List Bool
by_letter word = map (λ letter. list_any (λ r. bytes_eq r word) (filter (λ r. slice_index r 0 == letter) reserved_words)) (range_with_len 97 26)

past : (first : ℕ) → is_ascii_lowercase first ≡ false → first < 256 → 26 ≤ (first + 159) % 256
past first none byte = grind (arith, nat_tests)

-- what each letter's reserved words tell, one look tells
pub by_look : (bs : List Bool) (at : ℕ) (word : List ℕ) → bs ≡ by_letter word → at ≡ (slice_index word 0 + 159) % 256 → slice_index word 0 < 256
    → get_or bs at false ≡ is_reserved word
by_look bs at word is place byte = ap (λ (bs : List Bool). get_or bs at false) is ∙ by (is_ascii_lowercase (slice_index word 0)) refl
  where
    by : (low : Bool) → is_ascii_lowercase (slice_index word 0) ≡ low → get_or (by_letter word) at false ≡ is_reserved word
    by false none =
        let far : 26 ≤ at = subst (λ n. 26 ≤ n) (sym place) (past (slice_index word 0) none byte) in
        get_or-eq_default (by_letter word) false far ∙ sym (no_letter word none)
    by true low =
        let first = slice_index word 0 in
        let parts = and_parts (nat_le 97 first) (nat_le first 122) low in
        let least : 97 ≤ first = leb-true 97 first parts.0 in
        let most : first ≤ 122 = leb-true first 122 parts.1 in
        get_or-map-range_with_len (λ letter. list_any (λ r. bytes_eq r word) (filter (λ r. slice_index r 0 == letter) reserved_words)) 97 26 at first false
        (omega (arith, least, most, place)) (omega (arith, least, most, place)) ∙ sym (by_first word first refl)
