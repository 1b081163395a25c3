-- The classes that are asked for and not covered are the candidates.
use Rattle.std.proofs.Common.{◌≡◌, ◌==◌, ◌&&◌, ◌<◌, ℕ, zero, suc, Bool, true, false, not, List, ◌++◌, map, replicate, inl, inr, refl, ap, sym, ◌∙◌, subst, arith}
use Rattle.std.specs.List.{list_any, filter, flat_map, range_with_len}
use Rattle.std.proofs.lemmas.Bool.{eqb-true}
use Rattle.std.proofs.lemmas.List.{length-replicate}
use Rattle.beas_core.specs.declared.schema.Access.{Access}
use Rattle.beas_core.specs.declared.query.Block.{Block}
use Rattle.beas_core.specs.declared.plan.Normal.{Normal}
use Rattle.beas_core.specs.Types.{ClassSet, Use}
use Rattle.beas_core.specs.Classes.{normal_of}
use Rattle.beas_core.specs.Coverage.{has, with_classes, place_class, needed_places, key_classes, uses, own_cover}
use Rattle.beas_core.proofs.Sets.{Has}
use Rattle.beas_core.proofs.MemberTests.{any_has, any_by}
use Rattle.beas_core.proofs.UseFacts.{same_number}
use Rattle.beas_core.proofs.BindingFacts.{from_range}
use Rattle.beas_core.proofs.ClassSetFacts.{has-with_new, has-with_cases}
use Rattle.specialise.specs.declared.candidates.Candidate.{Candidate}
use Rattle.specialise.specs.Specialised.{asked_classes, open_classes, candidates}
use Rattle.specialise.specs.Trials.{candidate_of, is_open}
use Rattle.specialise.proofs.Lists.{filter_same}

none_held : (n c : ℕ) → has (replicate n false) c ≡ true → ⊥
none_held zero c h = let e : false ≡ true = h in cc
none_held (suc n) zero h = let e : false ≡ true = h in cc
none_held (suc n) (suc c) h = none_held n c h

same_bools : (a b : Bool) → (a ≡ true → b ≡ true) → (b ≡ true → a ≡ true) → a ≡ b
same_bools true b f g = sym (f refl)
same_bools false true f g = g refl
same_bools false false f g = refl

asked_tell : (n : ℕ) (cs : List ℕ) (c : ℕ) → c < n → has (with_classes (replicate n false) cs) c ≡ list_any (λ d. d == c) cs
asked_tell n cs c l = same_bools (has (with_classes (replicate n false) cs) c) (list_any (λ d. d == c) cs)
    (λ h. elim (has-with_cases cs (replicate n false) c h) [
      | inl k ↦ absurd (none_held n c k)
      | inr m ↦ any_by (λ d. d == c) cs c m (same_number c c refl)
    ])
    (λ h. let r = any_has (λ d. d == c) cs h in
    has-with_new cs (replicate n false) c (subst (Has cs) (eqb-true r.0 c r.2) r.1) (subst (λ k. c < k) (sym (length-replicate n false)) l))

pub listed_is : (accesses : List Access) (block : Block) (normal : Normal) → normal ≡ normal_of block → (cover asked : ClassSet) (us : List Use)
    → us ≡ uses normal accesses → cover ≡ own_cover normal accesses
    → asked ≡ with_classes (replicate normal.count false) (map (place_class normal) (needed_places normal) ++ flat_map (key_classes normal) us)
    → (listed : List Candidate) → listed ≡ map (candidate_of block) (filter (is_open cover asked) (range_with_len 0 normal.count))
    → listed ≡ map (candidate_of block) (candidates accesses block)
listed_is accesses block normal en cover asked us eu ec em listed el =
    el ∙ ap (map (candidate_of block))
    (filter_same (is_open cover asked) (λ c. not (has (own_cover normal accesses) c) && list_any (λ d. d == c) (asked_classes normal accesses))
    (range_with_len 0 normal.count) same ∙ ap (λ n. open_classes n accesses) en)
  where
    tells : (c : ℕ) → c < normal.count → has asked c ≡ list_any (λ d. d == c) (asked_classes normal accesses)
    tells c l =
        ap (λ s. has s c) em ∙ asked_tell normal.count (map (place_class normal) (needed_places normal) ++ flat_map (key_classes normal) us) c l
        ∙ ap (λ xs. list_any (λ d. d == c) (map (place_class normal) (needed_places normal) ++ flat_map (key_classes normal) xs)) eu

    same : (c : ℕ) → Has (range_with_len 0 normal.count) c
        → is_open cover asked c ≡ (not (has (own_cover normal accesses) c) && list_any (λ d. d == c) (asked_classes normal accesses))
    same c m =
        let below = from_range normal.count 0 c m in
        ap (λ s. not (has s c) && has asked c) ec ∙ ap (λ b. not (has (own_cover normal accesses) c) && b) (tells c (omega arith))
