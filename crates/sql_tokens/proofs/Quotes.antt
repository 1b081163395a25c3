-- The content of a quoted text, one stretch without a quote after another.
use Rattle.std.proofs.Common.{◌≡◌, ℕ, zero, suc, ◌+◌, ◌-◌, ◌<◌, ◌≤◌, true, false, List, [], ◌∷◌, ◌++◌, length, get_or, take, drop, refl, sym, ap, subst, ◌∙◌, inl, inr, arith, append_assoc, length-append, length-drop, le_refl}
use Rattle.std.specs.Prelude.{Bool, IsUtf8, IsCharBoundary, slice_range, Option, Some, None, option_map, not, eqb, if◌then◌else◌, ◌==◌}
use Rattle.std.specs.List.{prefix_len}
use Rattle.std.proofs.lemmas.Bool.{cases_Bool, cases_lt, eqb-true, not-false}
use Rattle.std.proofs.lemmas.List.{get_or-drop, drop-drop, drop_all, take_more, get_or_past, length-take-le}
use Rattle.std.proofs.lemmas.List.Sums.{prefix_len_stops}
use Rattle.std.proofs.lemmas.Str.{IsCharBoundary-after_ascii, IsCharBoundary-before_ascii}
use Rattle.sql_tokens.specs.Tokens.{quoted_text, quote, with_quotes_doubled}

abbrev pub unquoted : ℕ → Bool
unquoted byte = not (byte == quote)

run_yes : (a : ℕ) (rest : List ℕ) → eqb a quote ≡ false → prefix_len unquoted (a ∷ rest) ≡ 1 + prefix_len unquoted rest
run_yes a rest e = rw e refl

run_no : (a : ℕ) (rest : List ℕ) → eqb a quote ≡ true → prefix_len unquoted (a ∷ rest) ≡ 0
run_no a rest e = rw e refl

text_more : (a b : ℕ) (rest : List ℕ) → eqb a quote ≡ false → quoted_text (a ∷ b ∷ rest) ≡ option_map (λ text. a ∷ text) (quoted_text (b ∷ rest))
text_more a b rest e = rw e refl

-- no quote at all
pub quoted_text-none : (bs : List ℕ) → prefix_len unquoted bs ≡ length bs → quoted_text bs ≡ None
quoted_text-none [] h = refl
quoted_text-none (a ∷ []) h =
    elim (cases_Bool (eqb a quote)) [
      | inl e ↦ absurd (omega (arith, h, run_no a [] e))
      | inr e ↦ rw e refl
    ]
quoted_text-none (a ∷ b ∷ bs) h =
    elim (cases_Bool (eqb a quote)) [
      | inl e ↦ absurd (omega (arith, h, run_no a (b ∷ bs) e))
      | inr e ↦ text_more a b bs e
          ∙ ap (option_map (λ text. a ∷ text)) (quoted_text-none (b ∷ bs) (omega (arith, h, run_yes a (b ∷ bs) e)))
    ]

option_map-twice :
    (o : Option (List ℕ)) (a : ℕ) (xs : List ℕ) →
    option_map (λ text. a ∷ text) (option_map (λ text. xs ++ text) o) ≡ option_map (λ text. (a ∷ xs) ++ text) o
option_map-twice None a xs = refl
option_map-twice (Some text) a xs = refl

-- a quote with none after it
pub quoted_text-end :
    (bs : List ℕ) (n : ℕ) → prefix_len unquoted bs ≡ n → n < length bs → eqb (get_or bs (suc n) 0) quote ≡ false →
    quoted_text bs ≡ Some (take n bs)
quoted_text-end [] n h l k = absurd (omega arith)
quoted_text-end (a ∷ []) zero h l k =
    elim (cases_Bool (eqb a quote)) [ inl e ↦ rw e refl | inr e ↦ absurd (omega (arith, h, run_yes a [] e)) ]
quoted_text-end (a ∷ []) (suc m) h l k = absurd (omega arith)
quoted_text-end (a ∷ b ∷ bs) zero h l k =
    elim (cases_Bool (eqb a quote)) [
      | inl e ↦ rw e (rw k refl)
      | inr e ↦ absurd (omega (arith, h, run_yes a (b ∷ bs) e))
    ]
quoted_text-end (a ∷ b ∷ bs) (suc m) h l k =
    elim (cases_Bool (eqb a quote)) [
      | inl e ↦ absurd (omega (arith, h, run_no a (b ∷ bs) e))
      | inr e ↦ text_more a b bs e
          ∙ ap (option_map (λ text. a ∷ text))
          (quoted_text-end (b ∷ bs) m (omega (arith, h, run_yes a (b ∷ bs) e)) (omega arith) k)
    ]

-- a quote with one after it
pub quoted_text-more :
    (bs : List ℕ) (n : ℕ) → prefix_len unquoted bs ≡ n → suc n < length bs → eqb (get_or bs (suc n) 0) quote ≡ true →
    quoted_text bs ≡ option_map (λ text. take (suc n) bs ++ text) (quoted_text (drop (suc (suc n)) bs))
quoted_text-more [] n h l k = absurd (omega arith)
quoted_text-more (a ∷ []) n h l k = absurd (omega arith)
quoted_text-more (a ∷ b ∷ bs) zero h l k =
    elim (cases_Bool (eqb a quote)) [
      | inl e ↦ rw e (rw k (ap (λ (x : ℕ). option_map (λ text. x ∷ text) (quoted_text bs)) (sym (eqb-true a quote e))))
      | inr e ↦ absurd (omega (arith, h, run_yes a (b ∷ bs) e))
    ]
quoted_text-more (a ∷ b ∷ bs) (suc m) h l k =
    elim (cases_Bool (eqb a quote)) [
      | inl e ↦ absurd (omega (arith, h, run_no a (b ∷ bs) e))
      | inr e ↦ text_more a b bs e
          ∙ ap (option_map (λ text. a ∷ text))
          (quoted_text-more (b ∷ bs) m (omega (arith, h, run_yes a (b ∷ bs) e)) (omega arith) k)
          ∙ option_map-twice (quoted_text (drop (suc (suc m)) (b ∷ bs))) a (take (suc m) (b ∷ bs))
    ]

-- a stretch without a quote is spelled as it is, and a quote stands twice
pub doubled-unquoted : (bs : List ℕ) (n : ℕ) → n ≤ prefix_len unquoted bs → with_quotes_doubled (take n bs) ≡ take n bs
doubled-unquoted bs zero h = refl
doubled-unquoted [] (suc n) h = refl
doubled-unquoted (a ∷ bs) (suc n) h =
    elim (cases_Bool (eqb a quote)) [
      | inl e ↦ absurd (omega (arith, h, run_no a bs e))
      | inr e ↦ rw e (ap (λ (more : List ℕ). a ∷ more) (doubled-unquoted bs n (omega (arith, h, run_yes a bs e))))
    ]

pub doubled-append : (xs ys : List ℕ) → with_quotes_doubled (xs ++ ys) ≡ with_quotes_doubled xs ++ with_quotes_doubled ys
doubled-append [] ys = refl
doubled-append (x ∷ xs) ys =
    ap (λ (more : List ℕ). (if x == quote then quote ∷ quote ∷ [] else x ∷ []) ++ more) (doubled-append xs ys)
    ∙ sym (append_assoc (if x == quote then quote ∷ quote ∷ [] else x ∷ []) (with_quotes_doubled xs) (with_quotes_doubled ys))

option_map-nil : (o : Option (List ℕ)) → option_map (λ text. [] ++ text) o ≡ o
option_map-nil None = refl
option_map-nil (Some text) = refl

option_map-append :
    (o : Option (List ℕ)) (xs ys : List ℕ) →
    option_map (λ text. xs ++ text) (option_map (λ text. ys ++ text) o) ≡ option_map (λ text. (xs ++ ys) ++ text) o
option_map-append None xs ys = refl
option_map-append (Some text) xs ys = ap (λ (t : List ℕ). Some t) (sym (append_assoc xs ys text))

-- the bytes from the place `from` up to `at` are read as text
pub record ReadUpTo (s : List ℕ) (from at : ℕ) (text : List ℕ) : Type 0 where
  pub cut : IsCharBoundary s at
  pub spelled : at ≡ from + length (with_quotes_doubled text)
  pub known : quoted_text (drop from s) ≡ option_map (λ more. text ++ more) (quoted_text (drop at s))

pub read-start : (s : List ℕ) (from : ℕ) → IsCharBoundary s from → ReadUpTo s from from []
read-start s from cut = record { cut = cut; spelled = omega arith; known = sym (option_map-nil (quoted_text (drop from s))) }

-- the quote at the end of a stretch
quote_at :
    (s : List ℕ) (at end : ℕ) → end ≡ at + prefix_len unquoted (drop at s) → at ≤ length s → end < length s →
    get_or s end 0 ≡ quote
quote_at s at end r l m =
    let n = prefix_len unquoted (drop at s) in
    let stops : unquoted (get_or (drop at s) n 0) ≡ false =
    prefix_len_stops unquoted (drop at s) 0 (omega (arith, r, length-drop at s)) in
    let here : get_or (drop at s) n 0 ≡ get_or s end 0 = get_or-drop at s n 0 ∙ ap (λ (k : ℕ). get_or s k 0) (sym r) in
    sym here ∙ eqb-true (get_or (drop at s) n 0) quote (not-false (eqb (get_or (drop at s) n 0) quote) stops)

pub cut-before :
    (s : List ℕ) (at end : ℕ) → end ≡ at + prefix_len unquoted (drop at s) → at ≤ length s → end < length s →
    IsCharBoundary s end
cut-before s at end r l m = IsCharBoundary-before_ascii s end m (omega (arith, quote_at s at end r l m))

pub cut-after :
    (s : List ℕ) (at end : ℕ) → IsUtf8 s → end ≡ at + prefix_len unquoted (drop at s) → at ≤ length s → end < length s →
    IsCharBoundary s (end + 1)
cut-after s at end u r l m = IsCharBoundary-after_ascii s end u m (omega (arith, quote_at s at end r l m))

pub read-none :
    (s : List ℕ) (from at : ℕ) (text : List ℕ) → ReadUpTo s from at text →
    length s ≡ at + prefix_len unquoted (drop at s) → quoted_text (drop from s) ≡ None
read-none s from at text h r =
    h.known ∙ ap (option_map (λ more. text ++ more)) (quoted_text-none (drop at s) (omega (arith, r, length-drop at s)))

pub read-past : (s : List ℕ) (from at : ℕ) (text : List ℕ) → ReadUpTo s from at text → length s ≤ at → quoted_text (drop from s) ≡ None
read-past s from at text h l =
    h.known ∙ ap (λ (bs : List ℕ). option_map (λ more. text ++ more) (quoted_text bs)) (drop_all at s l)

stretch :
    (s : List ℕ) (at end : ℕ) → end ≡ at + prefix_len unquoted (drop at s) →
    take (prefix_len unquoted (drop at s)) (drop at s) ≡ slice_range s at end
stretch s at end r =
    let n : prefix_len unquoted (drop at s) ≡ end - at = omega (arith, r) in
    ap (λ (k : ℕ). take k (drop at s)) n

pub read-end :
    (s : List ℕ) (from at end : ℕ) (text : List ℕ) → ReadUpTo s from at text →
    end ≡ at + prefix_len unquoted (drop at s) → end < length s → eqb (get_or s (end + 1) 0) quote ≡ false →
    quoted_text (drop from s) ≡ Some (text ++ slice_range s at end)
read-end s from at end text h r l k =
    let n = prefix_len unquoted (drop at s) in
    let place : at + suc n ≡ end + 1 = omega (arith, r) in
    let next : get_or (drop at s) (suc n) 0 ≡ get_or s (end + 1) 0 =
    get_or-drop at s (suc n) 0 ∙ ap (λ (i : ℕ). get_or s i 0) place in
    h.known
    ∙ ap (option_map (λ more. text ++ more))
    (quoted_text-end (drop at s) n refl (omega (arith, r, length-drop at s)) (ap (λ (b : ℕ). eqb b quote) next ∙ k))
    ∙ ap (λ (bs : List ℕ). Some (text ++ bs)) (stretch s at end r)

length-stretch :
    (s : List ℕ) (at end : ℕ) → end ≡ at + prefix_len unquoted (drop at s) → end < length s →
    length (with_quotes_doubled (slice_range s at end)) ≡ end - at
length-stretch s at end r l =
    let n = prefix_len unquoted (drop at s) in
    ap (λ (bs : List ℕ). length (with_quotes_doubled bs)) (sym (stretch s at end r))
    ∙ ap length (doubled-unquoted (drop at s) n (le_refl n))
    ∙ length-take-le n (drop at s) (omega (arith, r, length-drop at s))
    ∙ omega (arith, r)

pub end-spelled :
    (s : List ℕ) (from at end : ℕ) (text : List ℕ) → ReadUpTo s from at text →
    end ≡ at + prefix_len unquoted (drop at s) → end < length s →
    end + 1 ≡ from + length (with_quotes_doubled (text ++ slice_range s at end)) + 1
end-spelled s from at end text h r l =
    let whole = ap length (doubled-append text (slice_range s at end)) ∙ length-append (with_quotes_doubled text)
    (with_quotes_doubled (slice_range s at end)) in
    omega (arith, r, h.spelled, whole, length-stretch s at end r l)

one_more : (s : List ℕ) (at : ℕ) → eqb (get_or s at 0) quote ≡ true → at < length s
one_more s at k =
    elim (cases_lt at (length s)) [
      | inl l ↦ l
      | inr m ↦ absurd (omega (arith, get_or_past s at 0 m, eqb-true (get_or s at 0) quote k))
    ]

stretch_and_quote :
    (s : List ℕ) (at end : ℕ) → end ≡ at + prefix_len unquoted (drop at s) →
    take (suc (prefix_len unquoted (drop at s))) (drop at s) ≡ slice_range s at (end + 1)
stretch_and_quote s at end r =
    let n : suc (prefix_len unquoted (drop at s)) ≡ end + 1 - at = omega (arith, r) in
    ap (λ (k : ℕ). take k (drop at s)) n

length-stretch_and_quote :
    (s : List ℕ) (at end : ℕ) → end ≡ at + prefix_len unquoted (drop at s) → at ≤ length s → end < length s →
    length (with_quotes_doubled (slice_range s at (end + 1))) ≡ end + 2 - at
length-stretch_and_quote s at end r l m =
    let split : slice_range s at (end + 1) ≡ slice_range s at end ++ quote ∷ [] =
    ap (λ (k : ℕ). take k (drop at s)) (let k : end + 1 - at ≡ end - at + 1 = omega (arith, r) in k)
    ∙ take_more (drop at s) (end - at) 0 (omega (arith, r, length-drop at s))
    ∙ ap (λ (b : ℕ). slice_range s at end ++ b ∷ [])
    (get_or-drop at s (end - at) 0
    ∙ ap (λ (k : ℕ). get_or s k 0) (let k : at + (end - at) ≡ end = omega (arith, r) in k)
    ∙ quote_at s at end r l m) in
    ap (λ (bs : List ℕ). length (with_quotes_doubled bs)) split
    ∙ ap length (doubled-append (slice_range s at end) (quote ∷ []))
    ∙ length-append (with_quotes_doubled (slice_range s at end)) (quote ∷ quote ∷ [])
    ∙ omega (arith, r, length-stretch s at end r m)

more-spelled :
    (s : List ℕ) (from at end : ℕ) (text : List ℕ) → ReadUpTo s from at text →
    end ≡ at + prefix_len unquoted (drop at s) → end < length s →
    end + 2 ≡ from + length (with_quotes_doubled (text ++ slice_range s at (end + 1)))
more-spelled s from at end text h r l =
    let whole = ap length (doubled-append text (slice_range s at (end + 1)))
    ∙ length-append (with_quotes_doubled text) (with_quotes_doubled (slice_range s at (end + 1))) in
    omega (arith, r, h.spelled, whole, length-stretch_and_quote s at end r h.cut.0 l)

more-known :
    (s : List ℕ) (from at end : ℕ) (text : List ℕ) → ReadUpTo s from at text →
    end ≡ at + prefix_len unquoted (drop at s) → end + 1 < length s → eqb (get_or s (end + 1) 0) quote ≡ true →
    quoted_text (drop from s)
    ≡ option_map (λ more. (text ++ slice_range s at (end + 1)) ++ more) (quoted_text (drop (end + 2) s))
more-known s from at end text h r l k =
    let n = prefix_len unquoted (drop at s) in
    let place : at + suc n ≡ end + 1 = omega (arith, r) in
    let past : at + suc (suc n) ≡ end + 2 = omega (arith, r) in
    let next : get_or (drop at s) (suc n) 0 ≡ get_or s (end + 1) 0 =
    get_or-drop at s (suc n) 0 ∙ ap (λ (i : ℕ). get_or s i 0) place in
    h.known
    ∙ ap (option_map (λ more. text ++ more))
    (quoted_text-more (drop at s) n refl (omega (arith, r, length-drop at s)) (ap (λ (b : ℕ). eqb b quote) next ∙ k))
    ∙ option_map-append (quoted_text (drop (suc (suc n)) (drop at s))) text (take (suc n) (drop at s))
    ∙ ap (λ (xs : List ℕ). option_map (λ more. (text ++ xs) ++ more) (quoted_text (drop (suc (suc n)) (drop at s))))
    (stretch_and_quote s at end r)
    ∙ ap (λ (rest : List ℕ). option_map (λ more. (text ++ slice_range s at (end + 1)) ++ more) (quoted_text rest))
    (drop-drop (suc (suc n)) at s ∙ ap (λ (i : ℕ). drop i s) past)

pub read-more :
    (s : List ℕ) (from at end : ℕ) (text : List ℕ) → IsUtf8 s → ReadUpTo s from at text →
    end ≡ at + prefix_len unquoted (drop at s) → end < length s → eqb (get_or s (end + 1) 0) quote ≡ true →
    ReadUpTo s from (end + 2) (text ++ slice_range s at (end + 1))
read-more s from at end text u h r l k =
    let more : end + 1 < length s = one_more s (end + 1) k in
    let cut : IsCharBoundary s (end + 1 + 1) =
    IsCharBoundary-after_ascii s (end + 1) u more (omega (arith, eqb-true (get_or s (end + 1) 0) quote k)) in
    let place : end + 1 + 1 ≡ end + 2 = omega arith in
    record {
      cut = subst (λ (i : ℕ). IsCharBoundary s i) place cut;
      spelled = more-spelled s from at end text h r l;
      known = more-known s from at end text h r more k;
    }
