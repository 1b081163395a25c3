-- Tuples that are copied one after another, where a sieve passes them.
use Rattle.std.proofs.Common.{◌≡◌, ◌+◌, ◌*◌, ◌<◌, ◌≤◌, ◌++◌, ◌∷◌, ◌∙◌, [], ℕ, Bool, true, false, cond, List, length, take, drop, get_or, refl, ap, sym, subst, arith, add-one, length-append, length-drop}
use Rattle.std.specs.List.{filter}
use Rattle.std.proofs.Math.Seq.{take-suc}
use Rattle.std.proofs.lemmas.List.{append-nil, drop-append-le, take-append-drop, take-append-le, take_all}
use Rattle.std.proofs.lemmas.List.Elements.{filter-append}
use Rattle.beas_core.specs.declared.value.Value.{Value}
use Rattle.beas_core.specs.declared.plan.Normal.{Normal}
use Rattle.beas_core.specs.Types.{Row}
use Rattle.plan_ops.specs.declared.sieving.Sieve.{Sieve}
use Rattle.plan_ops.specs.Sieves.{passes, sieved}
use Rattle.block_walk.specs.Fetched.{Pushed, rows_in}
use Rattle.block_walk.proofs.FetchedFacts.{rows_more}

pub pushed_none : (width : ℕ) (values : List Value) → Pushed width values values [] 0
pushed_none width values = record { front = take_all (length values) values (omega arith); whole = omega arith; cut = refl }

pub pushed_more : (width : ℕ) (old values : List Value) (rows : List Row) (count : ℕ) → Pushed width old values rows count
    → (tuple new : List Value) → length tuple ≡ width → new ≡ values ++ tuple → Pushed width old new (rows ++ tuple ∷ []) (count + 1)
pushed_more width old values rows count was tuple new wide is =
    let whole = was.whole in
    let behind : length old ≤ length values = omega (arith, whole) in
    let left = length-drop (length old) values in
    let rest : length (drop (length old) values) ≡ count * width = omega (arith, left, whole) in
    let sum = length-append values tuple in
    let more : (count + 1) * width ≡ count * width + width = omega arith in
    record {
      front = ap (take (length old)) is ∙ take-append-le (length old) values tuple behind ∙ was.front;
      whole = ap length is ∙ omega (arith, sum, whole, wide, more);
      cut = ap (λ (vs : Row). rows_in width (count + 1) (drop (length old) vs)) is
          ∙ ap (rows_in width (count + 1)) (drop-append-le (length old) values tuple behind)
          ∙ rows_more width count (drop (length old) values) tuple rest wide
          ∙ ap (λ rs. rs ++ tuple ∷ []) was.cut;
    }

module _ (normal : Normal) (sieve : Sieve) (tuples : List Row) where
  abbrev p : Row → Bool
  p = passes normal sieve

  module _ (i : ℕ) (t : Row) (l : i < length tuples) (is : t ≡ get_or tuples i []) where
    more : take (i + 1) tuples ≡ take i tuples ++ t ∷ []
    more = ap (λ k. take k tuples) (add-one i) ∙ take-suc tuples i [] l ∙ ap (λ y. take i tuples ++ y ∷ []) (sym is)

    by_one : filter p (take (i + 1) tuples) ≡ filter p (take i tuples) ++ filter p (t ∷ [])
    by_one = ap (filter p) more ∙ filter-append p (take i tuples) (t ∷ [])

    passed_more : p t ≡ true → filter p (take (i + 1) tuples) ≡ filter p (take i tuples) ++ t ∷ []
    passed_more e = by_one ∙ ap (λ b. filter p (take i tuples) ++ cond b (t ∷ []) []) e

    left_out : p t ≡ false → filter p (take (i + 1) tuples) ≡ filter p (take i tuples)
    left_out e = by_one ∙ ap (λ b. filter p (take i tuples) ++ cond b (t ∷ []) []) e ∙ append-nil (filter p (take i tuples))

    module _ (width : ℕ) (old values : List Value) (count : ℕ) (was : Pushed width old values (filter p (take i tuples)) count) where
      pub keeps_more : p t ≡ true → (new : List Value) → length t ≡ width → new ≡ values ++ t
          → Pushed width old new (filter p (take (i + 1) tuples)) (count + 1)
      keeps_more e new wide added = subst (λ rows. Pushed width old new rows (count + 1)) (sym (passed_more e))
          (pushed_more width old values (filter p (take i tuples)) count was t new wide added)

      pub keeps_same : p t ≡ false → Pushed width old values (filter p (take (i + 1) tuples)) count
      keeps_same e = subst (λ rows. Pushed width old values rows count) (sym (left_out e)) was

      -- the first one that passes, where one is enough
      pub keeps_one : count ≡ 0 → p t ≡ true → (new : List Value) → length t ≡ width → new ≡ values ++ t
          → Pushed width old new (sieved normal sieve true tuples) 1
      keeps_one none e new wide added =
          let before : filter p (take i tuples) ≡ [] = sym was.cut ∙ ap (λ n. rows_in width n (drop (length old) values)) none in
          let split : filter p tuples ≡ t ∷ filter p (drop (i + 1) tuples) =
          ap (filter p) (sym (take-append-drop (i + 1) tuples)) ∙ filter-append p (take (i + 1) tuples) (drop (i + 1) tuples)
          ∙ ap (λ rows. rows ++ filter p (drop (i + 1) tuples)) (passed_more e ∙ ap (λ rows. rows ++ t ∷ []) before) in
          subst (λ rows. Pushed width old new rows 1) (sym (ap (take 1) split))
          (subst (Pushed width old new (t ∷ [])) (ap (λ n. n + 1) none)
          (pushed_more width old values [] count (subst (λ rows. Pushed width old values rows count) before was) t new wide added))

  -- all tuples were looked at
  pub all_looked : (width : ℕ) (old values : List Value) (count i : ℕ) → Pushed width old values (filter p (take i tuples)) count → length tuples ≤ i
      → (one : Bool) → (one ≡ true → count ≡ 0) → Pushed width old values (sieved normal sieve one tuples) count
  all_looked width old values count i was l one none =
      by one none (subst (λ ts. Pushed width old values (filter p ts) count) (take_all i tuples l) was)
    where
      by : (b : Bool) → (b ≡ true → count ≡ 0) → Pushed width old values (filter p tuples) count → Pushed width old values (sieved normal sieve b tuples) count
      by true none h =
          let empty : filter p tuples ≡ [] = sym h.cut ∙ ap (λ n. rows_in width n (drop (length old) values)) (none refl) in
          subst (λ rows. Pushed width old values rows count) (empty ∙ sym (ap (take 1) empty)) h
      by false none h = h
