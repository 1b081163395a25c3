-- Masks as sets of positions.
use Rattle.std.proofs.Common.{◌≡◌, ◌==◌, ◌<◌, ◌≤◌, ◌+◌, ◌-◌, ◌*◌, ◌/◌, ◌%◌, ◌^◌, bit_and, bit_or, bit_xor, min, max, ℕ, zero, suc, Bool, true, false, cond, nat_lt, List, [], ◌∷◌, ◌++◌, length, get_or, take, drop, ◌⊎◌, inl, inr, refl, ap, sym, ◌∙◌, subst, arith, mod-eq_of_lt, pow-suc}
use Rattle.std.specs.Int.{bit_at}
use Rattle.std.proofs.Math.Seq.{take-length}
use Rattle.std.proofs.lemmas.Bool.{eqb-true, ltb-true, ltb-false}
use Rattle.std.proofs.lemmas.Nat.{and_le_r, and_mask, or_comm, or_shifted, pow_below, pow_pos}
use Rattle.std.proofs.lemmas.Nat.Bits.{bit_at_lowest, bit_at-suc, bit_at_and, bit_at_or, bit_at_xor, bit_at-pow_same, bit_at-pow_other, bit_at-lt, bit_at_above, same_from_bits, same_from_bits_below}
use Rattle.beas_core.proofs.Sets.{Has}
use Rattle.beas_core.proofs.MemberTests.{which}
use Rattle.beas_core.proofs.UseFacts.{same_number}
use Rattle.specialise.specs.declared.candidates.Candidate.{Candidate}
use Rattle.specialise.specs.Trials.{within, apart, with_first, mask_where, classes_at}

never : (b : Bool) → b ≡ true → b ≡ false → ⊥
never b p q = cc

-- ---- within and apart, by positions

min_one : (a b : ℕ) → min a b ≡ a → a ≡ 1 → b < 2 → b ≡ 1
min_one a zero e f l = let g : min 1 0 ≡ 1 = subst (λ n. min n 0 ≡ n) f e in omega (arith, g)
min_one a (suc zero) e f l = refl
min_one a (suc (suc b)) e f l = absurd (omega (arith, l))

min_is : (a b : ℕ) → a < 2 → b < 2 → (a ≡ 1 → b ≡ 1) → min a b ≡ a
min_is zero zero l m h = refl
min_is zero (suc zero) l m h = refl
min_is (suc zero) zero l m h = let e = h refl in absurd (omega (arith, e))
min_is (suc zero) (suc zero) l m h = refl
min_is a (suc (suc b)) l m h = absurd (omega (arith, m))
min_is (suc (suc a)) b l m h = absurd (omega (arith, l))

pub holds_in : (a b i : ℕ) → within a b ≡ true → bit_at a i ≡ 1 → bit_at b i ≡ 1
holds_in a b i h e =
    min_one (bit_at a i) (bit_at b i) (sym (bit_at_and a b i) ∙ ap (λ n. bit_at n i) (eqb-true (bit_and a b) a h)) e (bit_at-lt b i)

pub within_by : (a b : ℕ) → ((i : ℕ) → bit_at a i ≡ 1 → bit_at b i ≡ 1) → within a b ≡ true
within_by a b h = same_number (bit_and a b) a (same_from_bits (bit_and a b) a (λ i.
    bit_at_and a b i ∙ min_is (bit_at a i) (bit_at b i) (bit_at-lt a i) (bit_at-lt b i) (h i)))

min_none : (a b : ℕ) → min a b ≡ 0 → a ≡ 1 → b ≡ 1 → ⊥
min_none a b e f g = let h : min 1 1 ≡ 0 = subst (λ n. min 1 n ≡ 0) g (subst (λ n. min n b ≡ 0) f e) in omega (arith, h)

min_zero : (a b : ℕ) → a < 2 → b < 2 → (a ≡ 1 → b ≡ 1 → ⊥) → min a b ≡ 0
min_zero zero zero l m h = refl
min_zero zero (suc zero) l m h = refl
min_zero (suc zero) zero l m h = refl
min_zero (suc zero) (suc zero) l m h = absurd (h refl refl)
min_zero a (suc (suc b)) l m h = absurd (omega (arith, m))
min_zero (suc (suc a)) b l m h = absurd (omega (arith, l))

none_bits : (i : ℕ) → bit_at 0 i ≡ 0
none_bits i = bit_at_above 0 0 i (omega arith) (omega arith)

pub apart_at : (a b i : ℕ) → apart a b ≡ true → bit_at a i ≡ 1 → bit_at b i ≡ 1 → ⊥
apart_at a b i h e f =
    min_none (bit_at a i) (bit_at b i) (sym (bit_at_and a b i) ∙ ap (λ n. bit_at n i) (eqb-true (bit_and a b) 0 h) ∙ none_bits i) e f

pub apart_by : (a b : ℕ) → ((i : ℕ) → bit_at a i ≡ 1 → bit_at b i ≡ 1 → ⊥) → apart a b ≡ true
apart_by a b h = same_number (bit_and a b) 0 (same_from_bits (bit_and a b) 0 (λ i.
    bit_at_and a b i ∙ min_zero (bit_at a i) (bit_at b i) (bit_at-lt a i) (bit_at-lt b i) (h i) ∙ sym (none_bits i)))

pub within_itself : (a : ℕ) → within a a ≡ true
within_itself a = within_by a a (λ i e. e)

pub within_chain : (a b c : ℕ) → within a b ≡ true → within b c ≡ true → within a c ≡ true
within_chain a b c h g = within_by a c (λ i e. holds_in b c i g (holds_in a b i h e))

max_cases : (a b : ℕ) → a < 2 → b < 2 → max a b ≡ 1 → (a ≡ 1) ⊎ (b ≡ 1)
max_cases zero zero l m e = absurd (let f : 0 ≡ 1 = e in omega (arith, f))
max_cases zero (suc zero) l m e = inr refl
max_cases (suc zero) b l m e = inl refl
max_cases a (suc (suc b)) l m e = absurd (omega (arith, m))
max_cases (suc (suc a)) b l m e = absurd (omega (arith, l))

pub or_at : (a b i : ℕ) → bit_at (bit_or a b) i ≡ 1 → (bit_at a i ≡ 1) ⊎ (bit_at b i ≡ 1)
or_at a b i e = max_cases (bit_at a i) (bit_at b i) (bit_at-lt a i) (bit_at-lt b i) (sym (bit_at_or a b i) ∙ e)

max_left : (a b : ℕ) → a ≡ 1 → b < 2 → max a b ≡ 1
max_left a zero e l = ap (λ n. max n 0) e
max_left a (suc zero) e l = ap (λ n. max n 1) e
max_left a (suc (suc b)) e l = absurd (omega (arith, l))

max_right : (a b : ℕ) → b ≡ 1 → a < 2 → max a b ≡ 1
max_right zero b e l = ap (max 0) e
max_right (suc zero) b e l = ap (max 1) e
max_right (suc (suc a)) b e l = absurd (omega (arith, l))

pub or_left_at : (a b i : ℕ) → bit_at a i ≡ 1 → bit_at (bit_or a b) i ≡ 1
or_left_at a b i e = bit_at_or a b i ∙ max_left (bit_at a i) (bit_at b i) e (bit_at-lt b i)

pub or_right_at : (a b i : ℕ) → bit_at b i ≡ 1 → bit_at (bit_or a b) i ≡ 1
or_right_at a b i e = bit_at_or a b i ∙ max_right (bit_at a i) (bit_at b i) e (bit_at-lt a i)

pub within_left : (a b c : ℕ) → within c a ≡ true → within c (bit_or a b) ≡ true
within_left a b c h = within_by c (bit_or a b) (λ i e. or_left_at a b i (holds_in c a i h e))

pub within_right : (a b c : ℕ) → within c b ≡ true → within c (bit_or a b) ≡ true
within_right a b c h = within_by c (bit_or a b) (λ i e. or_right_at a b i (holds_in c b i h e))

pub or_within : (a b c : ℕ) → within a c ≡ true → within b c ≡ true → within (bit_or a b) c ≡ true
or_within a b c h g = within_by (bit_or a b) c (λ i e. elim (or_at a b i e) [ inl k ↦ holds_in a c i h k | inr k ↦ holds_in b c i g k ])

-- ---- masks of the candidates that pass a test

abbrev digit : Bool → ℕ
digit b = cond b 1 0

first_bit : (b : Bool) (rest : ℕ) → bit_at (with_first b rest) 0 ≡ digit b
first_bit true rest = let e : (1 + 2 * rest) % 2 ≡ 1 = omega arith in bit_at_lowest (1 + 2 * rest) ∙ e
first_bit false rest = let e : (0 + 2 * rest) % 2 ≡ 0 = omega arith in bit_at_lowest (0 + 2 * rest) ∙ e

half : (b : Bool) (rest : ℕ) → with_first b rest / 2 ≡ rest
half true rest = let e : (1 + 2 * rest) / 2 ≡ rest = omega arith in e
half false rest = let e : (0 + 2 * rest) / 2 ≡ rest = omega arith in e

later_bit : (b : Bool) (rest i : ℕ) → bit_at (with_first b rest) (suc i) ≡ bit_at rest i
later_bit b rest i = bit_at-suc (with_first b rest) i ∙ ap (λ n. bit_at n i) (half b rest)

module _ (p : Candidate → Bool) where
  pub mask_at : (cs : List Candidate) (i : ℕ) (d : Candidate) → bit_at (mask_where p cs) i ≡ 1 → (i < length cs) × (p (get_or cs i d) ≡ true)
  mask_at [] i d e = absurd (let n = none_bits i in omega (arith, n, e))
  mask_at (c ∷ cs) zero d e = by (p c) refl (sym (first_bit (p c) (mask_where p cs)) ∙ e)
    where
      by : (b : Bool) → p c ≡ b → digit b ≡ 1 → (0 < length (c ∷ cs)) × (p c ≡ true)
      by true t f = (omega arith, t)
      by false t f = absurd (omega (arith, f))
  mask_at (c ∷ cs) (suc i) d e =
      let r = mask_at cs i d (sym (later_bit (p c) (mask_where p cs) i) ∙ e) in
      (omega (arith, r.0), r.1)

  pub mask_has : (cs : List Candidate) (i : ℕ) (d : Candidate) → i < length cs → p (get_or cs i d) ≡ true → bit_at (mask_where p cs) i ≡ 1
  mask_has [] i d l e = absurd (omega (arith, l))
  mask_has (c ∷ cs) zero d l e = first_bit (p c) (mask_where p cs) ∙ ap digit e
  mask_has (c ∷ cs) (suc i) d l e = later_bit (p c) (mask_where p cs) i ∙ mask_has cs i d (omega (arith, l)) e

  pub mask_below : (cs : List Candidate) → mask_where p cs < 2 ^ length cs
  mask_below [] = omega arith
  mask_below (c ∷ cs) = by (p c) (mask_below cs)
    where
      by : (b : Bool) → mask_where p cs < 2 ^ length cs → with_first b (mask_where p cs) < 2 ^ suc (length cs)
      by true l = let e : 1 + 2 * mask_where p cs < 2 ^ suc (length cs) = omega (arith, l, pow-suc 2 (length cs)) in e
      by false l = let e : 0 + 2 * mask_where p cs < 2 ^ suc (length cs) = omega (arith, l, pow-suc 2 (length cs)) in e

-- ---- members and their positions

abbrev pub no_candidate : Candidate
no_candidate = record { class = 0; place = record { atom = 0; column = record { 0 = 0 } } }

pub has_at : {A : Type 0} (xs : List A) (i : ℕ) (d : A) → i < length xs → Has xs (get_or xs i d)
has_at [] i d l = absurd (omega (arith, l))
has_at (x ∷ xs) zero d l = inl refl
has_at (x ∷ xs) (suc i) d l = inr (has_at xs i d (omega (arith, l)))

pub at_has : {A : Type 0} (xs : List A) (y d : A) → Has xs y → (i : ℕ) × (i < length xs) × (get_or xs i d ≡ y)
at_has [] y d h = absurd h
at_has (x ∷ xs) y d (inl e) = (0, omega arith, sym e)
at_has (x ∷ xs) y d (inr h) = let r = at_has xs y d h in (suc r.0, omega (arith, r.1), r.2)

pub masks_within : (p q : Candidate → Bool) (cs : List Candidate) (d : Candidate) → ((c : Candidate) → Has cs c → p c ≡ true → q c ≡ true)
    → within (mask_where p cs) (mask_where q cs) ≡ true
masks_within p q cs d h = within_by (mask_where p cs) (mask_where q cs) (λ i e.
    let r = mask_at p cs i d e in
    mask_has q cs i d r.0 (h (get_or cs i d) (has_at cs i d r.0) r.1))

-- ---- a set without one of its positions

abbrev pub without : ℕ → ℕ → ℕ
without s i = bit_xor s (2 ^ i)

odd_sum : (a b : ℕ) → (a + b) % 2 ≡ 1 → a < 2 → b < 2 → b ≡ 0 → a ≡ 1
odd_sum a b e l m z = omega (arith, e, l, z)

odd_back : (a b : ℕ) → a ≡ 1 → b ≡ 0 → (a + b) % 2 ≡ 1
odd_back a b e z = omega (arith, e, z)

even_sum : (a b : ℕ) → (a + b) % 2 ≡ 1 → a ≡ 1 → b ≡ 1 → ⊥
even_sum a b h e f = omega (arith, h, e, f)

module _ (s i : ℕ) (holds : bit_at s i ≡ 1) where
  other_bit : (j : ℕ) → (j ≡ i → ⊥) → bit_at (2 ^ i) j ≡ 0
  other_bit j ne = bit_at-pow_other i j ne

  pub lacks_it : bit_at (without s i) i ≡ 1 → ⊥
  lacks_it e = even_sum (bit_at s i) (bit_at (2 ^ i) i) (sym (bit_at_xor s (2 ^ i) i) ∙ e) holds (bit_at-pow_same i)

  without_at : (j : ℕ) → bit_at (without s i) j ≡ 1 → bit_at s j ≡ 1
  without_at j e = elim (which (j == i)) [
    | inl t ↦ absurd (lacks_it (subst (λ k. bit_at (without s i) k ≡ 1) (eqb-true j i t) e))
    | inr f ↦ (
        let ne : (j ≡ i → ⊥) = λ k. never (j == i) (same_number j i k) f in
        odd_sum (bit_at s j) (bit_at (2 ^ i) j) (sym (bit_at_xor s (2 ^ i) j) ∙ e) (bit_at-lt s j) (bit_at-lt (2 ^ i) j) (other_bit j ne))
  ]

  pub without_within : within (without s i) s ≡ true
  without_within = within_by (without s i) s without_at

  pub without_less : without s i < s
  without_less =
      let l = and_le_r (without s i) s in
      let e = eqb-true (bit_and (without s i) s) (without s i) without_within in
      let ne : (without s i ≡ s → ⊥) = λ k. lacks_it (ap (λ n. bit_at n i) k ∙ holds) in
      omega (arith, l, e, ne)

  pub still_within : (k : ℕ) → within k s ≡ true → (bit_at k i ≡ 1 → ⊥) → within k (without s i) ≡ true
  still_within k h lack = within_by k (without s i) (λ j e. elim (which (j == i)) [
    | inl t ↦ absurd (lack (subst (λ n. bit_at k n ≡ 1) (eqb-true j i t) e))
    | inr f ↦ (
        let ne : (j ≡ i → ⊥) = λ m. never (j == i) (same_number j i m) f in
        bit_at_xor s (2 ^ i) j ∙ odd_back (bit_at s j) (bit_at (2 ^ i) j) (holds_in k s j h e) (other_bit j ne))
  ])

pub within_le : (a b : ℕ) → within a b ≡ true → a ≤ b
within_le a b h = let l = and_le_r a b in let e = eqb-true (bit_and a b) a h in omega (arith, l, e)

searched : (n a b : ℕ) → ((i : ℕ) → i < n → bit_at a i ≡ bit_at b i) ⊎ ((i : ℕ) × (i < n) × (bit_at a i ≡ bit_at b i → ⊥))
searched zero a b = inl (λ i l. absurd (omega (arith, l)))
searched (suc n) a b = elim (searched n a b) [
  | inr r ↦ inr (r.0, omega (arith, r.1), r.2)
  | inl same ↦ elim (which (bit_at a n == bit_at b n)) [
    | inr f ↦ inr (n, omega arith, λ e. never (bit_at a n == bit_at b n) (same_number (bit_at a n) (bit_at b n) e) f)
    | inl t ↦ inl (λ i l. elim (which (i == n)) [
      | inl e ↦ subst (λ k. bit_at a k ≡ bit_at b k) (sym (eqb-true i n e)) (eqb-true (bit_at a n) (bit_at b n) t)
      | inr f ↦ same i (let ne : (i ≡ n → ⊥) = λ k. never (i == n) (same_number i n k) f in omega (arith, l, ne))
    ])
  ]
]

apart_bits : (a b : ℕ) → a < 2 → b < 2 → (a ≡ 1 → b ≡ 1) → (a ≡ b → ⊥) → (b ≡ 1) × (a ≡ 1 → ⊥)
apart_bits zero zero l m up ne = absurd (ne refl)
apart_bits zero (suc b) l m up ne = (omega (arith, m), λ e. omega (arith, e))
apart_bits (suc a) b l m up ne =
    let e : suc a ≡ 1 = omega (arith, l) in
    let f = up e in
    absurd (ne (e ∙ sym f))

-- a set within another is the same, or lacks one of its positions
pub missing : (n k s : ℕ) → s < 2 ^ n → within k s ≡ true → (k ≡ s) ⊎ ((i : ℕ) × (i < n) × (bit_at s i ≡ 1) × (bit_at k i ≡ 1 → ⊥))
missing n k s l h = elim (searched n k s) [
  | inl same ↦ inl (same_from_bits_below n k s (let m = within_le k s h in omega (arith, l, m)) l same)
  | inr r ↦ (
      let b = apart_bits (bit_at k r.0) (bit_at s r.0) (bit_at-lt k r.0) (bit_at-lt s r.0) (holds_in k s r.0 h) r.2 in
      inr (r.0, r.1, b.0, b.1))
]

pub below_full : (n m : ℕ) → m < 2 ^ n → within m (2 ^ n - 1) ≡ true
below_full n m l = same_number (bit_and m (2 ^ n - 1)) m (and_mask m n ∙ mod-eq_of_lt l)

pub full_below : (n m : ℕ) → within m (2 ^ n - 1) ≡ true → m < 2 ^ n
full_below n m h = let l = within_le m (2 ^ n - 1) h in let p = pow_pos n in omega (arith, l, p)

pub none_within : (other : ℕ) → within 0 other ≡ true
none_within other = within_by 0 other (λ i e. absurd (let n = none_bits i in omega (arith, n, e)))

-- ---- masks of few candidates

pub pow_few : (n : ℕ) → n ≤ 16 → 2 ^ n ≤ 65536
pow_few n m = elim (which (n == 16)) [
  | inl t ↦ subst (λ k. 2 ^ k ≤ 65536) (sym (eqb-true n 16 t)) (let e : 2 ^ 16 ≡ 65536 = refl in omega (arith, e))
  | inr f ↦ (
      let ne : (n ≡ 16 → ⊥) = λ k. never (n == 16) (same_number n 16 k) f in
      let b = pow_below n 16 (omega (arith, m, ne)) in
      let e : 2 ^ 16 ≡ 65536 = refl in
      omega (arith, b, e))
]

-- the others of a list, as the pattern of a slice has them
others_counted : {A : Type 0} (cs : List A) → 1 ≤ length cs → suc (length (take (length cs - 1) (drop 1 cs))) ≡ length cs
others_counted [] l = absurd (omega (arith, l))
others_counted (c ∷ cs) l =
    let k : suc (length cs) - 1 ≡ length cs = omega arith in
    ap (λ j. suc (length (take j cs))) k ∙ ap (λ xs. suc (length xs)) (take-length cs)

pub rest_few : {A : Type 0} (cs : List A) (n : ℕ) → n < 2 ^ length (take (length cs - 1) (drop 1 cs)) → 1 ≤ length cs → length cs ≤ 16 → n < 65536
rest_few cs n b l m =
    let k = others_counted cs l in
    let few = pow_few (length (take (length cs - 1) (drop 1 cs))) (omega (arith, k, m)) in
    omega (arith, b, few)

pub first_mask : (p : Candidate → Bool) (cs : List Candidate) (d : Candidate) (b : Bool) (n : ℕ) → 1 ≤ length cs → b ≡ p (get_or cs 0 d)
    → n ≡ mask_where p (take (length cs - 1) (drop 1 cs)) → with_first b n ≡ mask_where p cs
first_mask p [] d b n l eb en = absurd (omega (arith, l))
first_mask p (c ∷ cs) d b n l eb en =
    let k : suc (length cs) - 1 ≡ length cs = omega arith in
    ap (λ x. with_first x n) eb ∙ ap (with_first (p c)) (en ∙ ap (λ j. mask_where p (take j cs)) k ∙ ap (mask_where p) (take-length cs))

-- ---- the classes at a mask's positions

odd_bit : (mask : ℕ) → (mask % 2 == 1) ≡ true → bit_at mask 0 ≡ 1
odd_bit mask e = bit_at_lowest mask ∙ eqb-true (mask % 2) 1 e

bit_odd : (mask : ℕ) → bit_at mask 0 ≡ 1 → (mask % 2 == 1) ≡ true
bit_odd mask e = same_number (mask % 2) 1 (sym (bit_at_lowest mask) ∙ e)

pub bit_below : (n mask i : ℕ) → mask < 2 ^ n → bit_at mask i ≡ 1 → i < n
bit_below n mask i l e = elim (which (nat_lt i n)) [
  | inl t ↦ ltb-true i n t
  | inr f ↦ absurd (let z = bit_at_above mask n i l (ltb-false i n f) in omega (arith, z, e))
]

-- a position of a list that a mask has, at which a class stands
abbrev pub StandsAt : ℕ → List ℕ → ℕ → ℕ → Type 0
StandsAt mask cs c d = (i : ℕ) × (i < length cs) × (get_or cs i d ≡ c) × (bit_at mask i ≡ 1)

stands_later : (mask : ℕ) (cs : List ℕ) (x c d : ℕ) → StandsAt (mask / 2) cs c d → StandsAt mask (x ∷ cs) c d
stands_later mask cs x c d r = (suc r.0, omega (arith, r.1), r.2, bit_at-suc mask r.0 ∙ r.3)

pub stands_at : (mask : ℕ) (cs : List ℕ) (c d : ℕ) → Has (classes_at mask cs) c → StandsAt mask cs c d
stands_at mask [] c d h = absurd h
stands_at mask (x ∷ cs) c d h = by (mask % 2 == 1) refl h (λ g. stands_at (mask / 2) cs c d g)
  where
    by : (b : Bool) → (mask % 2 == 1) ≡ b → Has (cond b (x ∷ classes_at (mask / 2) cs) (classes_at (mask / 2) cs)) c
        → (Has (classes_at (mask / 2) cs) c → StandsAt (mask / 2) cs c d) → StandsAt mask (x ∷ cs) c d
    by false e g later = stands_later mask cs x c d (later g)
    by true e (inl same) later = (0, omega arith, sym same, odd_bit mask e)
    by true e (inr g) later = stands_later mask cs x c d (later g)

pub class_there : (mask : ℕ) (cs : List ℕ) (i d : ℕ) → i < length cs → bit_at mask i ≡ 1 → Has (classes_at mask cs) (get_or cs i d)
class_there mask [] i d l e = absurd (omega (arith, l))
class_there mask (x ∷ cs) zero d l e =
    subst (λ b. Has (cond b (x ∷ classes_at (mask / 2) cs) (classes_at (mask / 2) cs)) x) (sym (bit_odd mask e)) (inl refl)
class_there mask (x ∷ cs) (suc i) d l e =
    by (mask % 2 == 1) (class_there (mask / 2) cs i d (omega (arith, l)) (sym (bit_at-suc mask i) ∙ e))
  where
    by : (b : Bool) → Has (classes_at (mask / 2) cs) (get_or cs i d)
        → Has (cond b (x ∷ classes_at (mask / 2) cs) (classes_at (mask / 2) cs)) (get_or cs i d)
    by true h = inr h
    by false h = h

pub no_classes : (cs : List ℕ) → classes_at 0 cs ≡ []
no_classes [] = refl
no_classes (c ∷ cs) = no_classes cs

under_both : (b : Bool) (c : ℕ) (xs ys : List ℕ) → cond b (c ∷ (xs ++ ys)) (xs ++ ys) ≡ cond b (c ∷ xs) xs ++ ys
under_both true c xs ys = refl
under_both false c xs ys = refl

-- one position more, past all others
classes_plus : (p mask : ℕ) (cs : List ℕ) (d : ℕ) → mask < 2 ^ p → p < length cs → classes_at (mask + 2 ^ p) cs ≡ classes_at mask cs ++ get_or cs p d ∷ []
classes_plus p mask [] d l k = absurd (omega (arith, k))
classes_plus zero mask (c ∷ cs) d l k =
    let one : 2 ^ 0 ≡ 1 = refl in
    let z : mask ≡ 0 = omega (arith, l, one) in
    ap (λ m. classes_at (m + 2 ^ 0) (c ∷ cs)) z ∙ ap (λ ds. c ∷ ds) (no_classes cs)
    ∙ sym (ap (λ ds. ds ++ c ∷ []) (no_classes (c ∷ cs))) ∙ sym (ap (λ m. classes_at m (c ∷ cs) ++ c ∷ []) z)
classes_plus (suc p) mask (c ∷ cs) d l k =
    let rest : (mask + 2 ^ suc p) % 2 ≡ mask % 2 = omega (arith, pow-suc 2 p) in
    let half : (mask + 2 ^ suc p) / 2 ≡ mask / 2 + 2 ^ p = omega (arith, pow-suc 2 p) in
    let less : mask / 2 < 2 ^ p = omega (arith, l, pow-suc 2 p) in
    let y = get_or cs p d in
    ap (λ n. cond (n == 1) (c ∷ classes_at ((mask + 2 ^ suc p) / 2) cs) (classes_at ((mask + 2 ^ suc p) / 2) cs)) rest
    ∙ ap (λ n. cond (mask % 2 == 1) (c ∷ classes_at n cs) (classes_at n cs)) half
    ∙ ap (λ ds. cond (mask % 2 == 1) (c ∷ ds) ds) (classes_plus p (mask / 2) cs d less (omega (arith, k)))
    ∙ under_both (mask % 2 == 1) c (classes_at (mask / 2) cs) (y ∷ [])

or_is_plus : (p mask : ℕ) → mask < 2 ^ p → bit_or mask (2 ^ p) ≡ mask + 2 ^ p
or_is_plus p mask l =
    let one : 2 ^ p ≡ 1 * 2 ^ p = omega arith in
    let swap : 1 * 2 ^ p + mask ≡ mask + 2 ^ p = omega arith in
    or_comm mask (2 ^ p) ∙ ap (λ n. bit_or n mask) one ∙ or_shifted 1 p mask l ∙ swap

pub classes_more : (p mask : ℕ) (cs : List ℕ) (d : ℕ) → mask < 2 ^ p → p < length cs
    → classes_at (bit_or mask (2 ^ p)) cs ≡ classes_at mask cs ++ get_or cs p d ∷ []
classes_more p mask cs d l k = ap (λ m. classes_at m cs) (or_is_plus p mask l) ∙ classes_plus p mask cs d l k

pub more_below : (p mask : ℕ) → mask < 2 ^ p → bit_or mask (2 ^ p) < 2 ^ (p + 1)
more_below p mask l =
    let e = or_is_plus p mask l in
    let d = pow-suc 2 p in
    let n : suc p ≡ p + 1 = omega arith in
    subst (λ k. bit_or mask (2 ^ p) < 2 ^ k) n (omega (arith, e, d, l))

-- the classes so far
pub classes_to : (p mask : ℕ) (cs : List ℕ) (d : ℕ) → p < length cs
    → classes_at mask (take (suc p) cs) ≡ classes_at mask (take p cs) ++ cond (bit_at mask p == 1) (get_or cs p d ∷ []) []
classes_to p mask [] d l = absurd (omega (arith, l))
classes_to zero mask (c ∷ cs) d l = ap (λ n. cond (n == 1) (c ∷ []) []) (sym (bit_at_lowest mask))
classes_to (suc p) mask (c ∷ cs) d l =
    let before = classes_at (mask / 2) (take p cs) in
    ap (λ ds. cond (mask % 2 == 1) (c ∷ ds) ds) (classes_to p (mask / 2) cs d (omega (arith, l)))
    ∙ under_both (mask % 2 == 1) c before (cond (bit_at (mask / 2) p == 1) (get_or cs p d ∷ []) [])
    ∙ ap (λ n. cond (mask % 2 == 1) (c ∷ before) before ++ cond (n == 1) (get_or cs p d ∷ []) []) (sym (bit_at-suc mask p))
