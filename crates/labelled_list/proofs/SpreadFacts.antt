-- Labels that are spread evenly.
use Rattle.std.proofs.Common.{◌≡◌, ◌≤◌, ◌<◌, ◌+◌, ◌-◌, ◌*◌, ◌^◌, ℕ, List, length, get_or, set, map, ap, sym, ◌∙◌, arith, inl, inr}
use Rattle.std.proofs.Math.Nat.{mul-le-mul_left, mul-le-mul_right}
use Rattle.std.proofs.lemmas.Bool.{cases_eq, cases_lt}
use Rattle.std.proofs.lemmas.List.{map-set, set-get_or, get_or-map, get_or-set_same, get_or-set_other, length-map}
use Rattle.labelled_list.specs.declared.slot.Standing.{Standing}
use Rattle.labelled_list.specs.declared.stretch.Stretch.{Stretch}
use Rattle.labelled_list.specs.declared.coded.Coded.{Coded}
use Rattle.labelled_list.specs.Labels.{no_tuple, item_of, label_in, Rises, SitsAt}
use Rattle.labelled_list.specs.Spreads.{IsStretch, IsSpread}

-- one label more
pub label_next : (low step k n : ℕ) → n ≡ k + 1 → low + step * k + step ≡ low + step * n
label_next low step k n e = let z = ap (λ m. step * m) e in omega (arith, z)

pub spread_more : (old mid new : List (List ℕ × Standing)) (first i low step : ℕ) (w : Standing) → IsSpread old mid first i low step → first ≤ i → i < length mid
    → w.count ≡ (get_or mid i no_tuple).1.count → w.label ≡ low + step * (i - first + 1) → new ≡ set mid i ((get_or mid i no_tuple).0, w)
    → IsSpread old new first (i + 1) low step
spread_more old mid new first i low step w s f l count label is = record {
  same =
      ap (map item_of) is ∙ map-set item_of mid i t
      ∙ ap (λ n. let x : Coded = record { codes = (get_or mid i no_tuple).0; count = n } in set (map item_of mid) i x) count
      ∙ ap (set (map item_of mid) i) (sym (get_or-map item_of mid i no_tuple (item_of no_tuple) l))
      ∙ set-get_or (map item_of mid) i (item_of no_tuple) ∙ s.same;
  even = λ k h m.
      elim (cases_eq k i) [
        | inl e ↦
            ap (label_in new) e ∙ ap (λ xs. label_in xs i) is ∙ ap (λ (x : List ℕ × Standing). x.1.label) (get_or-set_same mid i t no_tuple l) ∙ label
            ∙ ap (λ n. low + step * (n - first + 1)) (sym e)
        | inr o ↦ other k o ∙ s.even k h (omega (arith, m, o))
      ];
  behind = λ k h. other k (λ e. omega (arith, e, h, f)) ∙ s.behind k h;
  ahead = λ k h. other k (λ e. omega (arith, e, h)) ∙ s.ahead k (omega (arith, h));
}
  where
    t : List ℕ × Standing
    t = ((get_or mid i no_tuple).0, w)

    other : (k : ℕ) → (k ≡ i → ⊥) → label_in new k ≡ label_in mid k
    other k o = ap (λ xs. label_in xs k) is ∙ ap (λ (x : List ℕ × Standing). x.1.label) (get_or-set_other mid i k t no_tuple o)

pub length_spread : (old new : List (List ℕ × Standing)) (first end low step : ℕ) → IsSpread old new first end low step → length new ≡ length old
length_spread old new first end low step s = sym (length-map new item_of) ∙ ap length s.same ∙ length-map old item_of

-- a stretch is sparse where its even step is so many times its parts
pub sparse_steps : (step parts span : ℕ) → 2 ^ 8 * parts ≤ step → step * parts ≤ span → 2 ^ 8 * parts * parts ≤ span
sparse_steps step parts span wide fits = let a = mul-le-mul_right parts wide in omega (arith, a, fits)

pub even_rises : (low step m n : ℕ) → 0 < step → m < n → low + step * m < low + step * n
even_rises low step m n some h = let next : m + 1 ≤ n = omega (arith, h) in let a = mul-le-mul_left step next in omega (arith, a, some)

pub even_joins : (low step a b c : ℕ) → a + b ≡ c → low + step * a + step * b ≡ low + step * c
even_joins low step a b c e = let z = ap (λ n. step * n) e in omega (arith, z)

-- the last label of a stretch that is spread lies below its end
pub spread_fits : (low high step first at end : ℕ) → first ≤ at → at ≤ end → low < high → high ≤ 2 ^ 64 - 1 → step * (end - first + 2) ≤ high - low
    → low + step * (at - first + 1) + step * (end - at) < 2 ^ 64
spread_fits low high step first at end before after open_between top fits =
    let joined = even_joins low step (at - first + 1) (end - at) (end - first + 1) (omega (arith, before, after)) in
    let less : step * (end - first + 1) ≤ step * (end - first + 2) = mul-le-mul_left step (omega arith) in
    omega (arith, joined, less, fits, open_between, top)

-- a stretch whose labels before a place and from it on are spread evenly, with one label left out between
module _ (ts mid new : List (List ℕ × Standing)) (at : ℕ) (s : Stretch) (step label : ℕ) (r : Rises ts) (is : IsStretch ts s) (before : s.first ≤ at) (after : at ≤ s.end)
    (some : 0 < step) (fits : step * (s.end - s.first + 2) ≤ s.high - s.low) (top : s.high ≤ 2 ^ 64 - 1) (here : label ≡ s.low + step * (at - s.first + 1))
    (one : IsSpread ts mid s.first at s.low step) (two : IsSpread mid new at s.end label step) where
  pub spread_length : length new ≡ length ts
  spread_length = length_spread mid new at s.end label step two ∙ length_spread ts mid s.first at s.low step one

  pub spread_same : map item_of new ≡ map item_of ts
  spread_same = two.same ∙ one.same

  front : (i : ℕ) → i < s.first → label_in new i ≡ label_in ts i
  front i h = two.behind i (omega (arith, h, before)) ∙ one.behind i h

  first_part : (i : ℕ) → s.first ≤ i → i < at → label_in new i ≡ s.low + step * (i - s.first + 1)
  first_part i h l = two.behind i l ∙ one.even i h l

  second_part : (i : ℕ) → at ≤ i → i < s.end → label_in new i ≡ s.low + step * (i - s.first + 2)
  second_part i h l =
      two.even i h l ∙ ap (λ m. m + step * (i - at + 1)) here
      ∙ even_joins s.low step (at - s.first + 1) (i - at + 1) (i - s.first + 2) (omega (arith, before, h))

  back : (i : ℕ) → s.end ≤ i → label_in new i ≡ label_in ts i
  back i h = two.ahead i h ∙ one.ahead i (omega (arith, h, after))

  below_high : (n : ℕ) → n < s.end - s.first + 2 → s.low + step * n < s.high
  below_high n h = let a = even_rises s.low step n (s.end - s.first + 2) some h in omega (arith, a, fits, is.open_between)

  above_low : (n : ℕ) → 0 < n → s.low < s.low + step * n
  above_low n h = let a = even_rises s.low step 0 n some h in omega (arith, a)

  behind_label : (i : ℕ) → i < at → label_in new i < label
  behind_label i h = elim (cases_lt i s.first) [
    | inl a ↦ let low = above_low (at - s.first + 1) (omega arith) in omega (arith, front i a, is.behind i a, here, low)
    | inr a ↦
        let up = even_rises s.low step (i - s.first + 1) (at - s.first + 1) some (omega (arith, h, a)) in
        omega (arith, first_part i a h, here, up)
  ]

  ahead_label : (i : ℕ) → at ≤ i → i < length new → label < label_in new i
  ahead_label i h l = elim (cases_lt i s.end) [
    | inl a ↦
        let up = even_rises s.low step (at - s.first + 1) (i - s.first + 2) some (omega (arith, h, before)) in
        omega (arith, second_part i h a, here, up)
    | inr a ↦
        let high = below_high (at - s.first + 1) (omega (arith, before, after)) in
        omega (arith, back i a, is.ahead i a (omega (arith, l, spread_length)), here, high)
  ]

  pub spread_rises : Rises new
  spread_rises = record {
    rises = λ i j h l.
        elim (cases_lt j at) [
          | inl a ↦
              elim (cases_lt j s.first) [
                | inl b ↦ omega (arith, front i (omega (arith, h, b)), front j b, r.rises i j h (omega (arith, l, spread_length)))
                | inr b ↦
                    elim (cases_lt i s.first) [
                      | inl e ↦ let low = above_low (j - s.first + 1) (omega arith) in omega (arith, front i e, is.behind i e, first_part j b a, low)
                      | inr e ↦
                          let up = even_rises s.low step (i - s.first + 1) (j - s.first + 1) some (omega (arith, h, e)) in
                          omega (arith, first_part i e (omega (arith, h, a)), first_part j b a, up)
                    ]
              ]
          | inr a ↦
              elim (cases_lt i at) [
                | inl b ↦ omega (arith, behind_label i b, ahead_label j a l)
                | inr b ↦
                    elim (cases_lt i s.end) [
                      | inl e ↦
                          elim (cases_lt j s.end) [
                            | inl f ↦
                                let up = even_rises s.low step (i - s.first + 2) (j - s.first + 2) some (omega (arith, h, b, before)) in
                                omega (arith, second_part i b e, second_part j a f, up)
                            | inr f ↦
                                let high = below_high (i - s.first + 2) (omega (arith, e, b, before)) in
                                omega (arith, second_part i b e, back j f, is.ahead j f (omega (arith, l, spread_length)), high)
                          ]
                      | inr e ↦ omega (arith, back i e, back j (omega (arith, h, e)), r.rises i j h (omega (arith, l, spread_length)))
                    ]
              ]
        ];
    above = λ i l.
        elim (cases_lt i at) [
          | inl a ↦
              elim (cases_lt i s.first) [
                | inl b ↦ omega (arith, front i b, r.above i (omega (arith, l, spread_length)))
                | inr b ↦ let low = above_low (i - s.first + 1) (omega arith) in omega (arith, first_part i b a, low)
              ]
          | inr a ↦ omega (arith, ahead_label i a l)
        ];
    below = λ i l.
        elim (cases_lt i at) [
          | inl a ↦ let high = below_high (at - s.first + 1) (omega (arith, before, after)) in omega (arith, behind_label i a, here, high, top)
          | inr a ↦
              elim (cases_lt i s.end) [
                | inl b ↦ let high = below_high (i - s.first + 2) (omega (arith, a, b, before)) in omega (arith, second_part i a b, high, top)
                | inr b ↦ omega (arith, back i b, r.below i (omega (arith, l, spread_length)))
              ]
        ];
  }

  pub spread_sits : SitsAt new at label
  spread_sits =
      let low = above_low (at - s.first + 1) (omega arith) in
      let high = below_high (at - s.first + 1) (omega (arith, before, after)) in
      record { above = omega (arith, here, low); below = omega (arith, here, high, top); behind = behind_label; ahead = ahead_label }
