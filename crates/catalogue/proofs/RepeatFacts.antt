-- Facts for the search for a name that stands twice.
--     repeated_from names i       the first name, from place i on, that stands among those before it
use Rattle.std.proofs.Common.{◌≡◌, ◌∙◌, ◌<◌, ◌≤◌, ◌+◌, ◌||◌, add-one, ℕ, suc, Bool, true, false, cond, List, [], ◌∷◌, take, drop, length, get_or, ap, refl, sym, zero-add, Option, Some, None, is_some}
use Rattle.std.specs.Prelude.{find, option_map}
use Rattle.std.specs.List.{list_any, enumerate_from}
use Rattle.std.specs.Str.{bytes_eq}
use Rattle.std.proofs.Math.ListN.{drop_of_length-le}
use Rattle.std.proofs.Math.Seq.{drop-cons, take-suc}
use Rattle.std.proofs.lemmas.List.Folds.{list_any-append}
use Rattle.std.specs.Cmp.Lexicographic.{nat_list_eq_equiv}
use Rattle.std.proofs.lemmas.List.FromFn.{get_or-enumerate_from, length-enumerate_from}

abbrev pub stood_before : List (List ℕ) → ℕ × List ℕ → Bool
stood_before names n = list_any (bytes_eq n.1) (take n.0 names)

abbrev pub repeated_from : List (List ℕ) → ℕ → Option (List ℕ)
repeated_from names i = option_map (λ n. n.1) (find (stood_before names) (drop i (enumerate_from 0 names)))

at : (names : List (List ℕ)) (i : ℕ) (d : List ℕ) → i < length names
    → drop i (enumerate_from 0 names) ≡ (i, get_or names i d) ∷ drop (suc i) (enumerate_from 0 names)
at names i d h =
    let long : i < length (enumerate_from 0 names) = rw (length-enumerate_from 0 names) h in
    drop-cons (enumerate_from 0 names) i (0, d) long
    ∙ ap (λ e. e ∷ drop (suc i) (enumerate_from 0 names)) (get_or-enumerate_from 0 names i (0, d) h ∙ ap (λ n. (n, get_or names i d)) (zero-add i))

pub repeated_here : (names : List (List ℕ)) (i : ℕ) (d : List ℕ) → i < length names
    → repeated_from names i ≡ cond (stood_before names (i, get_or names i d)) (Some (get_or names i d)) (repeated_from names (suc i))
repeated_here names i d h =
    ap (λ es. option_map (λ n. n.1) (find (stood_before names) es)) (at names i d h)
    ∙ by (stood_before names (i, get_or names i d)) refl
  where
    by : (b : Bool) → stood_before names (i, get_or names i d) ≡ b
        → option_map (λ n. n.1) (find (stood_before names) ((i, get_or names i d) ∷ drop (suc i) (enumerate_from 0 names)))
        ≡ cond (stood_before names (i, get_or names i d)) (Some (get_or names i d)) (repeated_from names (suc i))
    by true e = rw e
    by false e = rw e

-- one name further
pub repeated_step : (names : List (List ℕ)) (i : ℕ) (text : List ℕ) (stood : Bool) → i < length names → get_or names i [] ≡ text
    → stood ≡ list_any (bytes_eq text) (take i names) → repeated_from names i ≡ cond stood (Some text) (repeated_from names (i + 1))
repeated_step names i text stood h here is =
    repeated_here names i [] h
    ∙ ap (λ n. cond (list_any (bytes_eq n) (take i names)) (Some n) (repeated_from names (suc i))) here
    ∙ ap (λ b. cond b (Some text) (repeated_from names (suc i))) (sym is)
    ∙ ap (λ j. cond stood (Some text) (repeated_from names j)) (sym (add-one i))

or_true : (b : Bool) → (b || (true || false)) ≡ true
or_true true = refl
or_true false = refl

or_false : (b : Bool) → (b || (false || false)) ≡ b
or_false true = refl
or_false false = refl

-- a name is among the first i + 1 where it is among the first i, or is the next
pub seen_more : (names : List (List ℕ)) (i : ℕ) (text q : List ℕ) (was : Bool) → i < length names → get_or names i [] ≡ text
    → was ≡ list_any (bytes_eq q) (take i names) → cond (bytes_eq text q) true was ≡ list_any (bytes_eq q) (take (i + 1) names)
seen_more names i text q was h here is =
    by (bytes_eq text q) refl
    ∙ ap (λ b. list_any (bytes_eq q) (take i names) || (b || false)) (nat_list_eq_equiv.symm text q)
    ∙ ap (λ n. list_any (bytes_eq q) (take i names) || (bytes_eq q n || false)) (sym here)
    ∙ sym (list_any-append (bytes_eq q) (take i names) (get_or names i [] ∷ []))
    ∙ ap (list_any (bytes_eq q)) (sym (take-suc names i [] h))
    ∙ ap (λ j. list_any (bytes_eq q) (take j names)) (sym (add-one i))
  where
    by : (b : Bool) → bytes_eq text q ≡ b → cond (bytes_eq text q) true was ≡ (list_any (bytes_eq q) (take i names) || (bytes_eq text q || false))
    by true e = rw (e, ← is) (sym (or_true was))
    by false e = rw (e, ← is) (sym (or_false was))

pub some_of : {A : Type 0} (b : Bool) (x : A) (o : Option A) → is_some (cond b (Some x) o) ≡ cond b true (is_some o)
some_of true x o = refl
some_of false x o = refl

pub repeated_end : (names : List (List ℕ)) (i : ℕ) → length names ≤ i → repeated_from names i ≡ None
repeated_end names i h =
    let long : length (enumerate_from 0 names) ≤ i = rw (length-enumerate_from 0 names) h in
    ap (λ es. option_map (λ n. n.1) (find (stood_before names) es)) (drop_of_length-le (enumerate_from 0 names) long)
