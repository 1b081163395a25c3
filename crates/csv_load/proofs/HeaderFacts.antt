-- Loops over the places of a record see what is left of it: one field, and then the rest.
use Rattle.std.proofs.Common.{◌≡◌, ◌<◌, ◌+◌, ℕ, Bool, true, false, cond, List, [], ◌∷◌, ◌++◌, length, drop, get_or, map, Option, Some, None, refl, ap, sym, ◌∙◌, slice_get, append_assoc}
use Rattle.std.specs.List.{list_all, filter, filter_map, enumerate_from}
use Rattle.std.specs.Option.{is_some, option_and_then, option_map_or, option_to_list}
use Rattle.std.proofs.lemmas.List.{drop_more, map-append}
use Rattle.std.proofs.lemmas.Option.{slice_get-get_or, slice_get_within, get_or_from_slice_get}
use Rattle.csv_load.specs.CsvRows.{the_only}

pub drop_got : {X : Type 0} (xs : List X) (i : ℕ) (x : X) → slice_get xs i ≡ Some x → drop i xs ≡ x ∷ drop (i + 1) xs
drop_got xs i x e =
    drop_more xs i x (slice_get_within xs i x e)
    ∙ ap (λ y. y ∷ drop (i + 1) xs) (get_or_from_slice_get xs i x x e)

-- the places from one on whose fields pass a test
abbrev pub places : (List ℕ → Bool) → List (List ℕ) → ℕ → List ℕ
places p fields i = map (λ q. q.0) (filter (λ q. p q.1) (enumerate_from i (drop i fields)))

places_at : (p : List ℕ → Bool) (fields : List (List ℕ)) (i : ℕ) (b : Bool) → i < length fields → option_map_or p (slice_get fields i) false ≡ b
    → places p fields i ≡ cond b (i ∷ places p fields (i + 1)) (places p fields (i + 1))
places_at p fields i b l e =
    let got = slice_get-get_or fields i [] l in
    let test : p (get_or fields i []) ≡ b = ap (λ o. option_map_or p o false) (sym got) ∙ e in
    ap (λ xs. map (λ (q : ℕ × List ℕ). q.0) (filter (λ q. p q.1) (enumerate_from i xs))) (drop_got fields i (get_or fields i []) got)
    ∙ by (p (get_or fields i []))
    ∙ ap (λ t. cond t (i ∷ places p fields (i + 1)) (places p fields (i + 1))) test
  where
    by : (t : Bool)
        → map (λ (q : ℕ × List ℕ). q.0) (cond t ((i, get_or fields i []) ∷ filter (λ q. p q.1) (enumerate_from (i + 1) (drop (i + 1) fields)))
        (filter (λ q. p q.1) (enumerate_from (i + 1) (drop (i + 1) fields))))
        ≡ cond t (i ∷ places p fields (i + 1)) (places p fields (i + 1))
    by true = refl
    by false = refl

pub place_taken : (p : List ℕ → Bool) (fields : List (List ℕ)) (i : ℕ) (all : Option ℕ) → i < length fields → option_map_or p (slice_get fields i) false ≡ true
    → (o : Option ℕ) → is_some o ≡ false → the_only (option_to_list o ++ places p fields i) ≡ all → the_only (i ∷ places p fields (i + 1)) ≡ all
place_taken p fields i all l e None n h = ap the_only (sym (places_at p fields i true l e)) ∙ h
place_taken p fields i all l e (Some j) n h = cc

pub place_twice : (p : List ℕ → Bool) (fields : List (List ℕ)) (i : ℕ) (all : Option ℕ) → i < length fields → option_map_or p (slice_get fields i) false ≡ true
    → (o : Option ℕ) → is_some o ≡ true → the_only (option_to_list o ++ places p fields i) ≡ all → None ≡ all
place_twice p fields i all l e None n h = cc
place_twice p fields i all l e (Some j) n h = ap (λ xs. the_only (j ∷ xs)) (sym (places_at p fields i true l e)) ∙ h

pub place_passed : (p : List ℕ → Bool) (fields : List (List ℕ)) (i : ℕ) (all o : Option ℕ) → i < length fields
    → option_map_or p (slice_get fields i) false ≡ false
    → the_only (option_to_list o ++ places p fields i) ≡ all → the_only (option_to_list o ++ places p fields (i + 1)) ≡ all
place_passed p fields i all o l e h = ap (λ xs. the_only (option_to_list o ++ xs)) (sym (places_at p fields i false l e)) ∙ h

-- what each field gives, where each gives something
module _ {Y : Type 0} (f : List ℕ → Option Y) (fields : List (List ℕ)) (i : ℕ) where
  gives : (x : List ℕ) (o : Option Y) → slice_get fields i ≡ Some x → option_and_then f (slice_get fields i) ≡ o → f x ≡ o
  gives x o e h = ap (option_and_then f) (sym e) ∙ h

  pub given_all : (y : Y) → option_and_then f (slice_get fields i) ≡ Some y
      → (list_all (λ x. is_some (f x)) (drop (i + 1) fields) ≡ list_all (λ x. is_some (f x)) (drop i fields))
      × (filter_map f (drop i fields) ≡ y ∷ filter_map f (drop (i + 1) fields))
  given_all y h = by (slice_get fields i) refl h
    where
      by : (o : Option (List ℕ)) → slice_get fields i ≡ o → option_and_then f o ≡ Some y
          → (list_all (λ x. is_some (f x)) (drop (i + 1) fields) ≡ list_all (λ x. is_some (f x)) (drop i fields))
          × (filter_map f (drop i fields) ≡ y ∷ filter_map f (drop (i + 1) fields))
      by None e g = cc
      by (Some x) e g = let d = drop_got fields i x e in (rw (d, g) refl, rw (d, g) refl)

  pub lacks : i < length fields → option_and_then f (slice_get fields i) ≡ None → list_all (λ x. is_some (f x)) (drop i fields) ≡ false
  lacks l h =
      let got = slice_get-get_or fields i [] l in
      let d = drop_got fields i (get_or fields i []) got in
      let g = gives (get_or fields i []) None got h in
      rw (d, g) refl

pub pushed : {A B : Type 0} (v : A → B) (front : List A) (x : A) (rest : List B) → map v (front ++ x ∷ []) ++ rest ≡ map v front ++ v x ∷ rest
pushed v front x rest = ap (λ xs. xs ++ rest) (map-append v front (x ∷ [])) ∙ append_assoc (map v front) (v x ∷ []) rest
