-- Names: what they spell in lower case, and that a name is no reserved word.
use Rattle.std.proofs.Common.{◌≡◌, ◌&&◌, ◌||◌, ℕ, Bool, true, false, not, cond, List, [], ◌∷◌, length, map, get_or, refl, ap, sym, ◌∙◌, subst, arith, Some, None}
use Rattle.std.specs.Prelude.{nat_le}
use Rattle.std.specs.List.{list_all, list_any}
use Rattle.std.specs.Char.{is_ascii_uppercase, to_ascii_lowercase}
use Rattle.std.specs.Str.{str_to_ascii_lowercase}
use Rattle.std.proofs.lemmas.Bool.{and_from, and_parts}
use Rattle.std.proofs.lemmas.Bool.Decides.{nat_tests}
use Rattle.std.proofs.lemmas.List.{length-map}
use Rattle.beas_core.specs.Spelling.{begins_word, continues_word, is_word, is_folded, is_reserved, is_name, name_of}

pub begins-folded : (b : ℕ) → begins_word b ≡ true → begins_word (to_ascii_lowercase b) ≡ true
begins-folded b h = grind (arith, nat_tests)

pub continues-folded : (b : ℕ) → continues_word b ≡ true → continues_word (to_ascii_lowercase b) ≡ true
continues-folded b h = grind (arith, nat_tests)

pub no_capital-folded : (b : ℕ) → is_ascii_uppercase (to_ascii_lowercase b) ≡ false
no_capital-folded b = grind (arith, nat_tests)

pub folded-no_capital : (b : ℕ) → is_ascii_uppercase b ≡ false → to_ascii_lowercase b ≡ b
folded-no_capital b h = grind (arith, nat_tests)

pub all_continue-folded : (text : List ℕ) → list_all continues_word text ≡ true → list_all continues_word (map to_ascii_lowercase text) ≡ true
all_continue-folded [] h = refl
all_continue-folded (b ∷ bs) h =
    let parts = and_parts (continues_word b) (list_all continues_word bs) h in
    and_from (continues_word (to_ascii_lowercase b)) (list_all continues_word (map to_ascii_lowercase bs)) (continues-folded b parts.0)
    (all_continue-folded bs parts.1)

no_capitals-folded : (text : List ℕ) → list_any is_ascii_uppercase (map to_ascii_lowercase text) ≡ false
no_capitals-folded [] = refl
no_capitals-folded (b ∷ bs) =
    ap (λ c. c || list_any is_ascii_uppercase (map to_ascii_lowercase bs)) (no_capital-folded b) ∙ no_capitals-folded bs

-- a text without capitals is in lower case
pub folded-itself : (text : List ℕ) → list_any is_ascii_uppercase text ≡ false → str_to_ascii_lowercase text ≡ text
folded-itself [] h = refl
folded-itself (b ∷ bs) h = by (is_ascii_uppercase b) refl h (folded-itself bs)
  where
    by : (c : Bool) → is_ascii_uppercase b ≡ c → (c || list_any is_ascii_uppercase bs) ≡ false
        → (list_any is_ascii_uppercase bs ≡ false → str_to_ascii_lowercase bs ≡ bs)
        → str_to_ascii_lowercase (b ∷ bs) ≡ b ∷ bs
    by true e g rest = cc
    by false e g rest = rw (folded-no_capital b e) (ap (λ more. b ∷ more) (rest g))

word_begins : (text : List ℕ) → begins_word (get_or text 0 0) ≡ true → begins_word (get_or (map to_ascii_lowercase text) 0 0) ≡ true
word_begins [] h = h
word_begins (b ∷ bs) h = begins-folded b h

is_word-folded : (text : List ℕ) → is_word text ≡ true → is_word (str_to_ascii_lowercase text) ≡ true
is_word-folded text h =
    let first = and_parts (begins_word (get_or text 0 0) && list_all continues_word text) (nat_le (length text) 64) h in
    let rest = and_parts (begins_word (get_or text 0 0)) (list_all continues_word text) first.0 in
    and_from (begins_word (get_or (str_to_ascii_lowercase text) 0 0) && list_all continues_word (str_to_ascii_lowercase text))
    (nat_le (length (str_to_ascii_lowercase text)) 64)
    (and_from (begins_word (get_or (str_to_ascii_lowercase text) 0 0)) (list_all continues_word (str_to_ascii_lowercase text)) (word_begins text rest.0)
    (all_continue-folded text rest.1))
    (ap (λ n. nat_le n 64) (length-map text to_ascii_lowercase) ∙ first.1)

-- what an identifier becomes in lower case is a name
pub is_name-folded : (text : List ℕ) → is_word text ≡ true → is_reserved (str_to_ascii_lowercase text) ≡ false → is_name (str_to_ascii_lowercase text) ≡ true
unfolding is_name
is_name-folded text w r =
    and_from (is_word (str_to_ascii_lowercase text) && is_folded (str_to_ascii_lowercase text)) (not (is_reserved (str_to_ascii_lowercase text)))
    (and_from (is_word (str_to_ascii_lowercase text)) (is_folded (str_to_ascii_lowercase text)) (is_word-folded text w) (ap not (no_capitals-folded text)))
    (ap not r)

from_not : (b : Bool) → not b ≡ true → b ≡ false
from_not true h = sym h
from_not false h = refl

pub record NameFacts (text : List ℕ) : Type 0 where
  pub word : is_word text ≡ true
  pub folded : str_to_ascii_lowercase text ≡ text
  pub free : is_reserved text ≡ false

pub name_facts : (text : List ℕ) → is_name text ≡ true → NameFacts text
unfolding is_name
name_facts text h =
    let first = and_parts (is_word text && is_folded text) (not (is_reserved text)) h in
    let rest = and_parts (is_word text) (is_folded text) first.0 in
    record { word = rest.0; folded = folded-itself text (from_not (list_any is_ascii_uppercase text) rest.1); free = from_not (is_reserved text) first.1 }

-- a name is what it spells
pub name_of-name : (text : List ℕ) → is_name text ≡ true → name_of text ≡ Some text
name_of-name text h =
    let f = name_facts text h in
    rw (f.folded, f.word, f.free) refl

pub is_name-name_of : (text name : List ℕ) → name_of text ≡ Some name → is_name name ≡ true
is_name-name_of text name e = by (is_word text) refl (is_reserved (str_to_ascii_lowercase text)) refl e
  where
    by : (w : Bool) → is_word text ≡ w → (r : Bool) → is_reserved (str_to_ascii_lowercase text) ≡ r
        → cond (w && not r) (Some (str_to_ascii_lowercase text)) None ≡ Some name → is_name name ≡ true
    by true p true q h = cc
    by true p false q h = let same : str_to_ascii_lowercase text ≡ name = cc in subst (λ n. is_name n ≡ true) same (is_name-folded text p q)
    by false p r q h = cc

pub reserved_is_no_name : (word : List ℕ) → is_reserved word ≡ true → is_name word ≡ false
reserved_is_no_name word r = by (is_name word) refl
  where
    by : (b : Bool) → is_name word ≡ b → b ≡ false
    by true e = sym r ∙ (name_facts word e).free
    by false e = refl
