-- Copies that are made item by item.
use Rattle.std.proofs.Common.{◌≡◌, ◌+◌, ◌-◌, ◌<◌, ◌++◌, get_or, ◌∷◌, ℕ, Bool, List, [], length, take, insert, ap, sym, ◌∙◌, subst, arith, add-one}
use Rattle.std.specs.Prelude.{slice_get, Some, None}
use Rattle.std.specs.Cmp.{IsEquivalence}
use Rattle.std.specs.List.{IsDistinct}
use Rattle.std.specs.Map.{keys_of, lookup}
use Rattle.std.proofs.Math.Seq.{take-suc}
use Rattle.std.proofs.lemmas.List.{take-map, take_more, append-nil, length-take-le}
use Rattle.std.proofs.lemmas.List.Edits.{insert-append_right}
use Rattle.std.proofs.lemmas.Option.{get_or_from_slice_get, slice_get_within}
use Rattle.indexmap.specs.IndexMap.{insert_entry}
use Rattle.indexmap.proofs.MapLemmas.{absent_before, absent_from_lookup, insert_entry-absent, distinct-take}

-- one item more
one_more : {T : Type 0} (xs : List T) (i : ℕ) (x : T) → slice_get xs i ≡ Some x → take (i + 1) xs ≡ take i xs ++ x ∷ []
one_more xs i x at = ap (λ n. take n xs) (add-one i) ∙ take-suc xs i x (slice_get_within xs i x at) ∙ ap (λ v. take i xs ++ v ∷ []) (get_or_from_slice_get xs i x x at)

keys_take : {K V : Type 0} (n : ℕ) (es : List (K × V)) → keys_of (take n es) ≡ take n (keys_of es)
keys_take n es = sym (take-map (λ e. e.0) n es)

-- one entry more, whose key is none of those before it
pub one_entry_more : {K V : Type 0} {eq : K → K → Bool} → IsEquivalence eq → (es : List (K × V)) (i : ℕ) (k : K) (v : V)
    → slice_get es i ≡ Some (k, v) → IsDistinct eq (keys_of es) → insert_entry eq (take i es) k v ≡ take (i + 1) es
one_entry_more {K} {V} {eq} laws es i k v at distinct =
    let next = one_more es i (k, v) at in
    let apart : IsDistinct eq (keys_of (take i es ++ (k, v) ∷ [])) =
    subst (λ xs. IsDistinct eq (keys_of xs)) next (subst (IsDistinct eq) (sym (keys_take (i + 1) es)) (distinct-take laws (i + 1) (keys_of es) distinct)) in
    let absent : lookup (eq k) (take i es) ≡ None = absent_before laws (take i es) [] (k, v) apart in
    insert_entry-absent eq k v (take i es) (absent_from_lookup (eq k) (take i es) absent) ∙ sym next
