-- A table of first places, as a loop builds it, and what it says.
use Rattle.std.proofs.Common.{◌≡◌, ◌==◌, ◌<◌, ◌≤◌, ◌+◌, ℕ, Bool, true, false, cond, List, [], ◌∷◌, ◌++◌, length, get_or, ltb, map, set, take, replicate, inl, inr, refl, ap, sym, subst, ◌∙◌, arith, add-one, length-set, get_or-set_same, get_or-set_other}
use Rattle.std.proofs.Math.Seq.{take-suc}
use Rattle.std.proofs.lemmas.Bool.{eqb-true}
use Rattle.std.proofs.lemmas.List.{same_lists, length-replicate, get_or-replicate, length-take}
use Rattle.std.proofs.lemmas.List.Folds.{position_or_len_push}
use Rattle.std.proofs.lemmas.List.FromFn.{length-map-range_with_len, get_or-map-range_with_len}
use Rattle.std.specs.List.{filter, range_with_len}
use Rattle.beas_core.specs.declared.plan.Normal.{Normal}
use Rattle.beas_core.specs.Coverage.{has}
use Rattle.beas_core.specs.Valuations.{classes_in}
use Rattle.beas_core.proofs.Sets.{Has}
use Rattle.beas_core.proofs.BindingFacts.{from_range}
use Rattle.beas_core.proofs.MemberTests.{which}
use Rattle.beas_core.proofs.UseFacts.{same_number}
use Rattle.plan_ops.specs.Over.{set_of}
use Rattle.plan_ops.specs.Places.{place_of, places_in}
use Rattle.plan_ops.proofs.BoundSets.{counted, held_by_place}
use Rattle.plan_ops.proofs.PlaceFacts.{place-le}

pub place_at : (count : ℕ) (classes : List ℕ) (c d : ℕ) → c < count → get_or (places_in count classes) c d ≡ place_of classes c
place_at count classes c d l = get_or-map-range_with_len (place_of classes) 0 count c c d l (omega arith)

pub length-places : (count : ℕ) (classes : List ℕ) → length (places_in count classes) ≡ count
length-places count classes = length-map-range_with_len (place_of classes) 0 count

-- the place among the classes so far, or `none`
abbrev pub so_far : ℕ → List ℕ → ℕ → ℕ
so_far none classes c = cond (place_of classes c == length classes) none (place_of classes c)

pub record ArePlaced (count none : ℕ) (classes places : List ℕ) : Type 0 where
  pub counted : length places ≡ count
  pub placed : (c d : ℕ) → c < count → get_or places c d ≡ so_far none classes c

pub placed_none : (count none : ℕ) → ArePlaced count none [] (replicate count none)
placed_none count none = record { counted = length-replicate count none; placed = λ c d l. get_or-replicate count c none d l }

differ : (a b : ℕ) → (a ≡ b → ⊥) → (a == b) ≡ false
differ a b h = elim (which (a == b)) [ inl e ↦ absurd (h (eqb-true a b e)) | inr e ↦ e ]

apart : (a b : ℕ) → (a == b) ≡ false → a ≡ b → ⊥
apart a b e h = let s = same_number a b h in cc

-- one class more
so_far-push : (none : ℕ) (xs : List ℕ) (y c : ℕ)
    → so_far none (xs ++ y ∷ []) c ≡ cond (place_of xs c == length xs) (cond (y == c) (length xs) none) (place_of xs c)
so_far-push none xs y c =
    ap (λ n. cond (place_of (xs ++ y ∷ []) c == n) none (place_of (xs ++ y ∷ []) c)) (longer xs)
    ∙ ap (λ p. cond (p == (length xs + 1)) none p) (position_or_len_push (λ d. d == c) xs y)
    ∙ by (place_of xs c == length xs) (y == c) refl (place-le xs c)
  where
    longer : (xs : List ℕ) → length (xs ++ y ∷ []) ≡ length xs + 1
    longer [] = refl
    longer (x ∷ xs) = let e = longer xs in omega (arith, e)

    by : (free same : Bool) → (place_of xs c == length xs) ≡ free → place_of xs c ≤ length xs
        → cond (cond free (length xs + cond same 0 1) (place_of xs c) == (length xs + 1)) none (cond free (length xs + cond same 0 1) (place_of xs c))
        ≡ cond free (cond same (length xs) none) (place_of xs c)
    by true true e l = ap (λ b. cond b none (length xs + 0)) (differ (length xs + 0) (length xs + 1) (λ h. omega (arith, h))) ∙ plus_zero (length xs)
      where
        plus_zero : (n : ℕ) → n + 0 ≡ n
        plus_zero n = omega arith
    by true false e l = ap (λ b. cond b none (length xs + 1)) (same_number (length xs + 1) (length xs + 1) refl)
    by false same e l = ap (λ b. cond b none (place_of xs c)) (differ (place_of xs c) (length xs + 1) (λ h. omega (arith, h, l)))

module _ (count : ℕ) (classes places : List ℕ) (i y : ℕ) (l : i < length classes) (is : y ≡ get_or classes i 0) (small : y < count)
    (so : ArePlaced count (length classes) (take i classes) places) where
  front : length (take i classes) ≡ i
  front = let e = length-take i classes in omega (arith, e)

  more : take (i + 1) classes ≡ take i classes ++ y ∷ []
  more = ap (λ k. take k classes) (add-one i) ∙ take-suc classes i 0 l ∙ ap (λ v. take i classes ++ v ∷ []) (sym is)

  expected : (c : ℕ) → so_far (length classes) (take (i + 1) classes) c
      ≡ cond (place_of (take i classes) c == length (take i classes)) (cond (y == c) (length (take i classes)) (length classes)) (place_of (take i classes) c)
  expected c = ap (λ xs. so_far (length classes) xs c) more ∙ so_far-push (length classes) (take i classes) y c

  -- a class that stood nowhere so far
  fresh : so_far (length classes) (take i classes) y ≡ length classes → (place_of (take i classes) y == length (take i classes)) ≡ true
  fresh h = by (place_of (take i classes) y == length (take i classes)) refl h
    where
      by : (b : Bool) → (place_of (take i classes) y == length (take i classes)) ≡ b → cond b (length classes) (place_of (take i classes) y) ≡ length classes
          → b ≡ true
      by true e g = refl
      by false e g =
          let few = place-le (take i classes) y in
          let n = front in
          absurd (omega (arith, few, n, g, l))

  pub placed_new : so_far (length classes) (take i classes) y ≡ length classes → ArePlaced count (length classes) (take (i + 1) classes) (set places y i)
  placed_new h = record {
    counted = length-set places y i ∙ so.counted;
    placed = λ c d k. elim (which (y == c)) [
      | inl e ↦ (
          let same = eqb-true y c e in
          ap (λ x. get_or (set places y i) x d) (sym same)
          ∙ get_or-set_same places y i d (subst (λ n. y < n) (sym so.counted) small)
          ∙ sym (expected c ∙ ap (λ b. cond b (cond (y == c) (length (take i classes)) (length classes)) (place_of (take i classes) c))
          (subst (λ x. (place_of (take i classes) x == length (take i classes)) ≡ true) same (fresh h))
          ∙ ap (λ b. cond b (length (take i classes)) (length classes)) e ∙ front))
      | inr e ↦
          get_or-set_other places y c i d (λ g. apart y c e (sym g)) ∙ so.placed c d k
          ∙ sym (expected c ∙ ap (λ b. cond (place_of (take i classes) c == length (take i classes)) (cond b (length (take i classes)) (length classes))
          (place_of (take i classes) c)) e)
    ];
  }

  pub placed_before : (so_far (length classes) (take i classes) y ≡ length classes → ⊥) → ArePlaced count (length classes) (take (i + 1) classes) places
  placed_before h = record {
    counted = so.counted;
    placed = λ c d k. so.placed c d k ∙ sym (expected c ∙ same c);
  }
    where
      held : (place_of (take i classes) y == length (take i classes)) ≡ false
      held = elim (which (place_of (take i classes) y == length (take i classes))) [
        | inl e ↦ absurd (h (ap (λ b. cond b (length classes) (place_of (take i classes) y)) e))
        | inr e ↦ e
      ]

      same : (c : ℕ) → cond (place_of (take i classes) c == length (take i classes)) (cond (y == c) (length (take i classes)) (length classes))
          (place_of (take i classes) c) ≡ so_far (length classes) (take i classes) c
      same c = elim (which (y == c)) [
        | inl e ↦ (
            let shut = subst (λ x. (place_of (take i classes) x == length (take i classes)) ≡ false) (eqb-true y c e) held in
            ap (λ b. cond b (cond (y == c) (length (take i classes)) (length classes)) (place_of (take i classes) c)) shut
            ∙ sym (ap (λ b. cond b (length classes) (place_of (take i classes) c)) shut))
        | inr e ↦ ap (λ b. cond (place_of (take i classes) c == length (take i classes)) (cond b (length (take i classes)) (length classes))
            (place_of (take i classes) c)) e
      ]

pub placed_all : (count : ℕ) (classes places : List ℕ) → ArePlaced count (length classes) classes places → places ≡ places_in count classes
placed_all count classes places so = same_lists places (places_in count classes) (so.counted ∙ sym (length-places count classes)) (λ k d l.
    let small = subst (λ n. k < n) so.counted l in
    so.placed k d small ∙ whole k (place_of classes k == length classes) refl ∙ sym (place_at count classes k d small))
  where
    whole : (k : ℕ) (b : Bool) → (place_of classes k == length classes) ≡ b → cond b (length classes) (place_of classes k) ≡ place_of classes k
    whole k true e = sym (eqb-true (place_of classes k) (length classes) e)
    whole k false e = refl

-- what a table that is such a list says at an index
pub place_read : (count : ℕ) (classes places : List ℕ) (c i : ℕ) → places ≡ places_in count classes → i ≡ c → c < count
    → get_or places i 0 ≡ place_of classes c
place_read count classes places c i e same l = ap (λ xs. get_or xs i 0) e ∙ ap (λ k. get_or (places_in count classes) k 0) same ∙ place_at count classes c 0 l

-- the places of the classes that stand somewhere, in the order of the classes
pub held_places : (normal : Normal) (cs ks : List ℕ) → ((c : ℕ) → Has ks c → c < normal.count)
    → filter (λ place. ltb place (length cs)) (map (place_of cs) ks) ≡ map (place_of cs) (filter (has (set_of normal cs)) ks)
held_places normal cs [] small = refl
held_places normal cs (k ∷ ks) small = by (ltb (place_of cs k) (length cs)) (has (set_of normal cs) k) (held_by_place normal cs k (small k (inl refl)))
    (held_places normal cs ks (λ c h. small c (inr h)))
  where
    by : (a b : Bool) → b ≡ a
        → filter (λ place. ltb place (length cs)) (map (place_of cs) ks) ≡ map (place_of cs) (filter (has (set_of normal cs)) ks)
        → cond a (place_of cs k ∷ filter (λ place. ltb place (length cs)) (map (place_of cs) ks)) (filter (λ place. ltb place (length cs)) (map (place_of cs) ks))
        ≡ map (place_of cs) (cond b (k ∷ filter (has (set_of normal cs)) ks) (filter (has (set_of normal cs)) ks))
    by true true e rest = ap (λ ps. place_of cs k ∷ ps) rest
    by false false e rest = rest
    by true false e rest = cc
    by false true e rest = cc

pub places_of_classes : (normal : Normal) (cs : List ℕ)
    → filter (λ place. ltb place (length cs)) (places_in normal.count cs) ≡ map (place_of cs) (classes_in (set_of normal cs))
places_of_classes normal cs = held_places normal cs (range_with_len 0 normal.count) (λ c h. let l = from_range normal.count 0 c h in omega (arith, l))
    ∙ ap (λ n. map (place_of cs) (filter (has (set_of normal cs)) (range_with_len 0 n))) (sym (counted normal cs))
