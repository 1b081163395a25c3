-- Sets of classes as lists of truth values.
--     trues set       how many classes it holds
use Rattle.std.proofs.Common.{◌≡◌, ◌<◌, ◌≤◌, ◌+◌, ℕ, zero, suc, true, false, cond, List, [], ◌∷◌, length, ◌⊎◌, inl, inr, refl, ap, sym, ◌∙◌, subst, arith, length-set}
use Rattle.std.specs.List.{slice_set}
use Rattle.beas_core.specs.Types.{ClassSet}
use Rattle.beas_core.specs.Coverage.{has, with_classes, holds_classes, Within}
use Rattle.beas_core.proofs.Sets.{Has}
use Rattle.beas_core.proofs.MemberTests.{all_has, all_by}

pub has_below : (set : ClassSet) (c : ℕ) → has set c ≡ true → c < length set
has_below [] c h = cc
has_below (b ∷ set) zero h = omega arith
has_below (b ∷ set) (suc c) h = let l = has_below set c h in omega arith

has-set_same : (set : ClassSet) (c : ℕ) → c < length set → has (slice_set set c true) c ≡ true
has-set_same [] c l = absurd (omega (arith, l))
has-set_same (b ∷ set) zero l = refl
has-set_same (b ∷ set) (suc c) l = has-set_same set c (omega arith)

has-set_kept : (set : ClassSet) (c d : ℕ) → has set d ≡ true → has (slice_set set c true) d ≡ true
has-set_kept [] c d h = h
has-set_kept (b ∷ set) zero zero h = refl
has-set_kept (b ∷ set) zero (suc d) h = h
has-set_kept (b ∷ set) (suc c) zero h = h
has-set_kept (b ∷ set) (suc c) (suc d) h = has-set_kept set c d h

has-set_cases : (set : ClassSet) (c d : ℕ) → has (slice_set set c true) d ≡ true → (has set d ≡ true) ⊎ (d ≡ c)
has-set_cases [] c d h = inl h
has-set_cases (b ∷ set) zero zero h = inr refl
has-set_cases (b ∷ set) zero (suc d) h = inl h
has-set_cases (b ∷ set) (suc c) zero h = inl h
has-set_cases (b ∷ set) (suc c) (suc d) h = elim (has-set_cases set c d h) [ inl g ↦ inl g | inr e ↦ inr (ap suc e) ]

pub length-with : (cs : List ℕ) (set : ClassSet) → length (with_classes set cs) ≡ length set
length-with [] set = refl
length-with (c ∷ cs) set = length-with cs (slice_set set c true) ∙ length-set set c true

pub has-with_kept : (cs : List ℕ) (set : ClassSet) (d : ℕ) → has set d ≡ true → has (with_classes set cs) d ≡ true
has-with_kept [] set d h = h
has-with_kept (c ∷ cs) set d h = has-with_kept cs (slice_set set c true) d (has-set_kept set c d h)

pub has-with_new : (cs : List ℕ) (set : ClassSet) (c : ℕ) → Has cs c → c < length set → has (with_classes set cs) c ≡ true
has-with_new [] set c h l = absurd h
has-with_new (d ∷ cs) set c (inl e) l =
    has-with_kept cs (slice_set set d true) c (ap (has (slice_set set d true)) e ∙ has-set_same set d (subst (λ k. k < length set) e l))
has-with_new (d ∷ cs) set c (inr h) l = has-with_new cs (slice_set set d true) c h (subst (λ n. c < n) (sym (length-set set d true)) l)

pub has-with_cases : (cs : List ℕ) (set : ClassSet) (c : ℕ) → has (with_classes set cs) c ≡ true → (has set c ≡ true) ⊎ Has cs c
has-with_cases [] set c h = inl h
has-with_cases (d ∷ cs) set c h = elim (has-with_cases cs (slice_set set d true) c h) [
  | inl g ↦ elim (has-set_cases set d c g) [ inl k ↦ inl k | inr e ↦ inr (inl e) ]
  | inr g ↦ inr (inr g)
]

pub holds-within : (small large : ClassSet) (cs : List ℕ) → Within small large → holds_classes small cs ≡ true → holds_classes large cs ≡ true
holds-within small large cs w h = all_by (has large) cs (λ c g. w c (all_has (has small) cs c h g))

abbrev pub trues : ClassSet → ℕ
trues [] = 0
trues (b ∷ set) = cond b 1 0 + trues set

pub trues_le : (set : ClassSet) → trues set ≤ length set
trues_le [] = omega arith
trues_le (true ∷ set) = let h = trues_le set in omega arith
trues_le (false ∷ set) = let h = trues_le set in omega arith

pub all_true : (set : ClassSet) (c : ℕ) → length set ≤ trues set → c < length set → has set c ≡ true
all_true [] c h l = absurd (omega (arith, l))
all_true (true ∷ set) zero h l = refl
all_true (true ∷ set) (suc c) h l = all_true set c (omega arith) (omega arith)
all_true (false ∷ set) c h l = absurd (let g = trues_le set in omega arith)

pub trues_within : (small large : ClassSet) → length small ≡ length large → Within small large → trues small ≤ trues large
trues_within [] large e w = omega arith
trues_within (a ∷ small) [] e w = absurd (omega (arith, e))
trues_within (false ∷ small) (b ∷ large) e w = let h = trues_within small large (omega arith) (λ c. w (suc c)) in omega arith
trues_within (true ∷ small) (true ∷ large) e w = let h = trues_within small large (omega arith) (λ c. w (suc c)) in omega arith
trues_within (true ∷ small) (false ∷ large) e w = let h = w 0 refl in cc

pub trues_more : (small large : ClassSet) → length small ≡ length large → Within small large → (c : ℕ) → has large c ≡ true → has small c ≡ false
    → trues small < trues large
trues_more small [] e w c h g = cc
trues_more [] (b ∷ large) e w c h g = absurd (omega (arith, e))
trues_more (false ∷ small) (true ∷ large) e w c h g = let k = trues_within small large (omega arith) (λ d. w (suc d)) in omega arith
trues_more (true ∷ small) (false ∷ large) e w c h g = let k = w 0 refl in cc
trues_more (true ∷ small) (true ∷ large) e w zero h g = cc
trues_more (true ∷ small) (true ∷ large) e w (suc c) h g = let k = trues_more small large (omega arith) (λ d. w (suc d)) c h g in omega arith
trues_more (false ∷ small) (false ∷ large) e w zero h g = cc
trues_more (false ∷ small) (false ∷ large) e w (suc c) h g = let k = trues_more small large (omega arith) (λ d. w (suc d)) c h g in omega arith

-- either all that one set holds is in the other, or there is a first class that isn't
pub compared : (large small : ClassSet) → Within large small ⊎ ((c : ℕ) × (has large c ≡ true) × (has small c ≡ false))
compared [] small = inl (λ c h. cc)
compared (false ∷ large) [] = elim (compared large []) [
  | inl w ↦ inl (λ c. elim c as (λ k. has (false ∷ large) k ≡ true → has [] k ≡ true) [ zero ↦ λ h. h | suc d ↦ w d ])
  | inr m ↦ inr (suc m.0, m.1, m.2)
]
compared (true ∷ large) [] = inr (0, refl, refl)
compared (false ∷ large) (b ∷ small) = elim (compared large small) [
  | inl w ↦ inl (λ c. elim c as (λ k. has (false ∷ large) k ≡ true → has (b ∷ small) k ≡ true) [ zero ↦ λ h. (let g : false ≡ true = h in cc) | suc d ↦ w d ])
  | inr m ↦ inr (suc m.0, m.1, m.2)
]
compared (true ∷ large) (false ∷ small) = inr (0, refl, refl)
compared (true ∷ large) (true ∷ small) = elim (compared large small) [
  | inl w ↦ inl (λ c. elim c as (λ k. has (true ∷ large) k ≡ true → has (true ∷ small) k ≡ true) [ zero ↦ λ h. refl | suc d ↦ w d ])
  | inr m ↦ inr (suc m.0, m.1, m.2)
]
