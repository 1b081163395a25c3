-- What the rules give from a start is what more constants cover.
use Rattle.std.proofs.Common.{◌≡◌, ◌==◌, ◌&&◌, ◌||◌, ◌<◌, ◌+◌, ◌^◌, ℕ, zero, suc, Bool, true, false, not, cond, List, [], ◌∷◌, map, length, get_or, inl, inr, refl, ap, sym, ◌∙◌, subst, arith, zero-add}
use Rattle.std.specs.Int.{bit_at}
use Rattle.std.specs.List.{list_any, list_all, filter, flat_map, range_with_len}
use Rattle.std.proofs.lemmas.Bool.{eqb-true}
use Rattle.std.proofs.lemmas.List.{get_or-map, length-map}
use Rattle.std.proofs.lemmas.List.FromFn.{get_or-map-range_with_len}
use Rattle.beas_core.specs.declared.schema.Access.{Access}
use Rattle.beas_core.specs.declared.schema.ColumnId.{ColumnId}
use Rattle.beas_core.specs.declared.query.Block.{Block}
use Rattle.beas_core.specs.declared.plan.Normal.{Normal}
use Rattle.beas_core.specs.Types.{ClassSet, Use}
use Rattle.beas_core.specs.Shapes.{BlockIsWellFormed}
use Rattle.beas_core.specs.Classes.{normal_of}
use Rattle.beas_core.specs.Coverage.{has, with_classes, holds_classes, class_at, place_class, needed_places, uses, key_classes, fetched_classes, constant_classes, covered_set, own_cover, Within, IsClosed, IsLeastClosed}
use Rattle.beas_core.proofs.Sets.{Has, Has-append_right, Has-map, Has-from_map, Has-filter, Has-from_filter, Has-from_contains, Contains-from_has}
use Rattle.beas_core.proofs.MemberTests.{and_both, and_left, or_cases, or_left, or_right, to_not, from_not, which, all_has, all_by, any_has, any_by, Has-flat_map}
use Rattle.beas_core.proofs.UseFacts.{same_number}
use Rattle.beas_core.proofs.BindingFacts.{Has-range, from_range, range_least}
use Rattle.beas_core.proofs.ClassSetFacts.{has_below, length-with, has-with_kept, has-with_new, has-with_cases}
use Rattle.beas_core.proofs.ClassFacts.{classes_in_range}
use Rattle.beas_core.proofs.StartFacts.{start_counted}
use Rattle.beas_core.proofs.CoveredSetFacts.{covered_set_least}
use Rattle.specialise.specs.declared.candidates.Candidate.{Candidate}
use Rattle.specialise.specs.declared.rules.Rule.{Rule}
use Rattle.specialise.specs.Specialised.{candidates, asked_classes}
use Rattle.specialise.specs.Trials.{candidate_of, classes_in, found_in, is_among, mask_where, rule_of, rules_of, within, IsClosedUnder, IsLeastUnder}
use Rattle.specialise.proofs.Masks.{no_candidate, at_has, bit_below, class_there, has_at, holds_in, mask_at, mask_has, masks_within, stands_at, within_by, within_chain}

abbrev is_held : ClassSet → Candidate → Bool
is_held set c = has set c.class

-- ---- numbers that ascend, of which each stands at one position

abbrev Ascend : List ℕ → Type 0
Ascend [] = Unit {0}
Ascend (c ∷ cs) = ((d : ℕ) → Has cs d → c < d) × Ascend cs

one_position : (cs : List ℕ) → Ascend cs → (i j d : ℕ) → i < length cs → j < length cs → get_or cs i d ≡ get_or cs j d → i ≡ j
one_position [] up i j d l m e = absurd (omega (arith, l))
one_position (c ∷ cs) up zero zero d l m e = refl
one_position (c ∷ cs) up zero (suc j) d l m e = absurd (let b = up.0 (get_or cs j d) (has_at cs j d (omega (arith, m))) in omega (arith, b, e))
one_position (c ∷ cs) up (suc i) zero d l m e = absurd (let b = up.0 (get_or cs i d) (has_at cs i d (omega (arith, l))) in omega (arith, b, e))
one_position (c ∷ cs) up (suc i) (suc j) d l m e = ap suc (one_position cs up.1 i j d (omega (arith, l)) (omega (arith, m)) e)

ascend_filter : (p : ℕ → Bool) (n from : ℕ) → Ascend (filter p (range_with_len from n))
ascend_filter p zero from = tt
ascend_filter p (suc n) from = by (p from) (ascend_filter p n (from + 1))
  where
    rest : List ℕ
    rest = filter p (range_with_len (from + 1) n)

    by : (b : Bool) → Ascend rest → Ascend (cond b (from ∷ rest) rest)
    by true later = (λ d m. let l = range_least n (from + 1) d (Has-from_filter p (range_with_len (from + 1) n) d m).0 in omega (arith, l), later)
    by false later = later

module _ (accesses : List Access) (block : Block) (shape : BlockIsWellFormed block) where
  abbrev normal : Normal
  normal = normal_of block

  abbrev cover : ClassSet
  cover = own_cover (normal_of block) accesses

  abbrev rules : List Rule
  rules = rules_of accesses block

  abbrev found : List Candidate
  found = found_in accesses block

  counted : (set : List ℕ) → length (with_classes (constant_classes normal) set) ≡ normal.count
  counted set = length-with set (constant_classes normal) ∙ start_counted normal false

  pub cover_is_least : IsLeastClosed normal accesses (constant_classes normal) cover
  cover_is_least = covered_set_least normal accesses (constant_classes normal) (start_counted normal false) (classes_in_range block shape)

  pub reached_is_least : (set : List ℕ)
      → IsLeastClosed normal accesses (with_classes (constant_classes normal) set) (covered_set normal accesses (with_classes (constant_classes normal) set))
  reached_is_least set = covered_set_least normal accesses (with_classes (constant_classes normal) set) (counted set) (classes_in_range block shape)

  -- candidates are numbers of classes
  pub candidate_below : (c : ℕ) → Has (candidates accesses block) c → c < normal.count
  candidate_below c h =
      let f = Has-from_filter (λ d. not (has cover d) && list_any (λ e. e == d) (asked_classes normal accesses)) (range_with_len 0 normal.count) c h in
      let l = from_range normal.count 0 c f.0 in
      omega (arith, l)

  -- ---- keys and fetched classes, by the candidates among them

  abbrev pub at : ℕ → Candidate
  at i = get_or found i no_candidate

  abbrev pub key_mask : Use → ℕ
  key_mask u = mask_where (is_among normal u.atom u.access.key) found

  abbrev gives_mask : Use → ℕ
  gives_mask u = mask_where (is_among normal u.atom u.access.fetched) found

  -- the candidate at a position is one of a class that the covered set lacks
  candidate_at : (i : ℕ) → i < length found → (c : ℕ) × (Has (candidates accesses block) c) × (at i ≡ candidate_of block c)
  candidate_at i l =
      let r = Has-from_map (candidate_of block) (candidates accesses block) (at i) (has_at found i no_candidate l) in
      (r.0, r.1, r.2)

  pub class_at_position : (i : ℕ) → i < length found → Has (candidates accesses block) (at i).class
  class_at_position i l = let r = candidate_at i l in subst (Has (candidates accesses block)) (sym (ap (λ (c : Candidate). c.class) r.2)) r.1

  position_of : (c : ℕ) → Has (candidates accesses block) c → (i : ℕ) × (i < length found) × (at i ≡ candidate_of block c)
  position_of c h = at_has found (candidate_of block c) no_candidate (Has-map (candidate_of block) (candidates accesses block) c h)

  -- ---- candidates that are held

  counted_alike : length found ≡ length (candidates accesses block)
  counted_alike = length-map (candidates accesses block) (candidate_of block)

  at_is : (i : ℕ) → i < length found → at i ≡ candidate_of block (get_or (candidates accesses block) i 0)
  at_is i l = get_or-map (candidate_of block) (candidates accesses block) i 0 no_candidate (subst (λ n. i < n) counted_alike l)

  class_is : (i : ℕ) → i < length found → (at i).class ≡ get_or (candidates accesses block) i 0
  class_is i l = ap (λ (c : Candidate). c.class) (at_is i l)

  -- where a candidate that a mask holds stands
  pub position_held : (held c : ℕ) → Has (classes_in accesses block held) c
      → (i : ℕ) × (i < length found) × (at i ≡ candidate_of block c) × (bit_at held i ≡ 1)
  position_held held c h =
      let r = stands_at held (candidates accesses block) c 0 h in
      let l = subst (λ n. r.0 < n) (sym counted_alike) r.1 in
      (r.0, l, at_is r.0 l ∙ ap (candidate_of block) r.2, r.3)

  pub held_candidate : (held c : ℕ) → Has (classes_in accesses block held) c → Has (candidates accesses block) c
  held_candidate held c h =
      let r = position_held held c h in
      subst (Has (candidates accesses block)) (ap (λ (d : Candidate). d.class) r.2) (class_at_position r.0 r.1)

  pub class_held : (held i : ℕ) → i < length found → bit_at held i ≡ 1 → Has (classes_in accesses block held) (at i).class
  class_held held i l e = subst (Has (classes_in accesses block held)) (sym (class_is i l))
      (class_there held (candidates accesses block) i 0 (subst (λ n. i < n) counted_alike l) e)

  -- it stands nowhere else
  held_by_class : (held c : ℕ) → Has (classes_in accesses block held) c → (i : ℕ) → i < length found → (at i).class ≡ c → bit_at held i ≡ 1
  held_by_class held c h i l e =
      let r = stands_at held (candidates accesses block) c 0 h in
      let asked : ℕ → Bool = λ d. list_any (λ k. k == d) (asked_classes normal accesses) in
      let same = one_position (candidates accesses block) (ascend_filter (λ d. not (has cover d) && asked d) normal.count 0) r.0 i 0 r.1
      (subst (λ n. i < n) counted_alike l) (r.2 ∙ sym e ∙ class_is i l) in
      subst (λ n. bit_at held n ≡ 1) same r.3

  candidate_free : (c : ℕ) → Has (candidates accesses block) c → has cover c ≡ false
  candidate_free c h =
      let asked : ℕ → Bool = λ d. list_any (λ e. e == d) (asked_classes normal accesses) in
      let f = Has-from_filter (λ d. not (has cover d) && asked d) (range_with_len 0 normal.count) c h in
      from_not (has cover c) (and_left (not (has cover c)) (asked c) f.1)

  -- a key's class that isn't covered is a candidate
  key_asked : (u : Use) → Has (uses normal accesses) u → (c : ℕ) → Has (key_classes normal u) c → has cover c ≡ false → Has (candidates accesses block) c
  key_asked u m c h e =
      let q = Has-from_map (class_at normal u.atom) u.access.key c h in
      let below : c < normal.count = subst (λ k. k < normal.count) (sym q.2) (classes_in_range block shape u.atom q.0) in
      let asked = any_by (λ d. d == c) (asked_classes normal accesses) c
      (Has-append_right (map (place_class normal) (needed_places normal)) (flat_map (key_classes normal) (uses normal accesses)) c
      (Has-flat_map (key_classes normal) (uses normal accesses) u c m h)) (same_number c c refl) in
      Has-filter (λ d. not (has cover d) && list_any (λ k. k == d) (asked_classes normal accesses)) (range_with_len 0 normal.count) c
      (Has-range normal.count 0 c (omega arith) (omega (arith, below)))
      (and_both (not (has cover c)) (list_any (λ k. k == c) (asked_classes normal accesses)) (to_not (has cover c) e) asked)

  among_classes : (u : Use) (columns : List ColumnId) (c : Candidate) → is_among normal u.atom columns c ≡ true → Has (map (class_at normal u.atom) columns) c.class
  among_classes u columns c e =
      let r = any_has (λ column. class_at normal u.atom column == c.class) columns e in
      subst (Has (map (class_at normal u.atom) columns)) (eqb-true (class_at normal u.atom r.0) c.class r.2) (Has-map (class_at normal u.atom) columns r.0 r.1)

  classes_among : (u : Use) (columns : List ColumnId) (c : Candidate) → Has (map (class_at normal u.atom) columns) c.class → is_among normal u.atom columns c ≡ true
  classes_among u columns c h =
      let r = Has-from_map (class_at normal u.atom) columns c.class h in
      any_by (λ column. class_at normal u.atom column == c.class) columns r.0 r.1 (same_number (class_at normal u.atom r.0) c.class (sym r.2))

  -- a set that holds the covered set and a key's candidates holds the key
  key_held : (set : ClassSet) → Within cover set → (u : Use) → Has (uses normal accesses) u
      → within (key_mask u) (mask_where (is_held set) found) ≡ true → holds_classes set (key_classes normal u) ≡ true
  key_held set w u m h = all_by (has set) (key_classes normal u) (λ c k. elim (which (has cover c)) [
    | inl e ↦ w c e
    | inr e ↦ (
        let i = position_of c (key_asked u m c k e) in
        let among = classes_among u u.access.key (at i.0) (subst (λ (x : Candidate). Has (key_classes normal u) x.class) (sym i.2) k) in
        let bit = mask_has (is_among normal u.atom u.access.key) found i.0 no_candidate i.1 among in
        let held = mask_at (is_held set) found i.0 no_candidate (holds_in (key_mask u) (mask_where (is_held set) found) i.0 h bit) in
        subst (λ (x : Candidate). has set x.class ≡ true) i.2 held.1)
  ])

  fetched_held : (set : ClassSet) (u : Use) → holds_classes set (fetched_classes normal u) ≡ true
      → within (gives_mask u) (mask_where (is_held set) found) ≡ true
  fetched_held set u h = masks_within (is_among normal u.atom u.access.fetched) (is_held set) found no_candidate (λ c m e.
      all_has (has set) (fetched_classes normal u) c.class h (among_classes u u.access.fetched c e))

  module _ (held : ℕ) (few : held < 2 ^ length found) (mask : ℕ) (least : IsLeastUnder rules held mask) where
    abbrev given : List ℕ
    given = classes_in accesses block held

    abbrev reached : ClassSet
    reached = covered_set normal accesses (with_classes (constant_classes normal) given)

    constants_reached : Within (constant_classes normal) reached
    constants_reached c h = (reached_is_least given).from_start c (has-with_kept given (constant_classes normal) c h)

    pub cover_reached : Within cover reached
    cover_reached = cover_is_least.least reached constants_reached (reached_is_least given).closed

    given_reached : (c : ℕ) → Has given c → has reached c ≡ true
    given_reached c m = (reached_is_least given).from_start c
        (has-with_new given (constant_classes normal) c m
        (subst (λ n. c < n) (sym (start_counted normal false)) (candidate_below c (held_candidate held c m))))

    -- ---- what the mask holds is reached

    abbrev reached_mask : ℕ
    reached_mask = mask_where (is_held reached) found

    reached_closed : IsClosedUnder rules reached_mask
    reached_closed r m w =
        let u = Has-from_map (rule_of normal found) (uses normal accesses) r (Has-from_contains rules r m) in
        let keys = key_held reached cover_reached u.0 u.1 (subst (λ (x : Rule). within x.key reached_mask ≡ true) u.2 w) in
        subst (λ (x : Rule). within x.gives reached_mask ≡ true) (sym u.2)
        (fetched_held reached u.0 ((reached_is_least given).closed u.0 (Contains-from_has (uses normal accesses) u.0 u.1) keys))

    mask_reached : within mask reached_mask ≡ true
    mask_reached = least.least reached_mask (within_by held reached_mask (λ i e.
        let l = bit_below (length found) held i few e in
        mask_has (is_held reached) found i no_candidate l (given_reached (at i).class (class_held held i l e)))) reached_closed

    pub key_reached : (u : Use) → Has (uses normal accesses) u → within (key_mask u) mask ≡ true → holds_classes reached (key_classes normal u) ≡ true
    key_reached u m w = key_held reached cover_reached u m (within_chain (key_mask u) mask reached_mask w mask_reached)

    -- ---- what is reached the mask holds

    -- each position of this class is in the mask
    abbrev is_in : ℕ → ℕ → Bool
    is_in c i = not ((at i).class == c) || (bit_at mask i == 1)

    abbrev is_allowed : ℕ → Bool
    is_allowed c = list_all (is_in c) (range_with_len 0 (length found))

    abbrev allowed : ClassSet
    allowed = map is_allowed (range_with_len 0 normal.count)

    allowed_is : (c : ℕ) → c < normal.count → has allowed c ≡ is_allowed c
    allowed_is c l = get_or-map-range_with_len is_allowed 0 normal.count c c false l (zero-add c)

    to_allowed : (c : ℕ) → c < normal.count → ((i : ℕ) → i < length found → (at i).class ≡ c → bit_at mask i ≡ 1) → has allowed c ≡ true
    to_allowed c l h = allowed_is c l ∙ all_by (is_in c) (range_with_len 0 (length found)) (λ i m. elim (which ((at i).class == c)) [
      | inr f ↦ or_left (not ((at i).class == c)) (bit_at mask i == 1) (to_not ((at i).class == c) f)
      | inl t ↦ or_right (not ((at i).class == c)) (bit_at mask i == 1)
          (same_number (bit_at mask i) 1 (h i (let b = from_range (length found) 0 i m in omega (arith, b)) (eqb-true (at i).class c t)))
    ])

    from_allowed : (i : ℕ) → i < length found → has allowed (at i).class ≡ true → bit_at mask i ≡ 1
    from_allowed i l h =
        let below = candidate_below (at i).class (class_at_position i l) in
        let all = all_has (is_in (at i).class) (range_with_len 0 (length found)) i (sym (allowed_is (at i).class below) ∙ h)
        (Has-range (length found) 0 i (omega arith) (omega (arith, l))) in
        elim (or_cases (not ((at i).class == (at i).class)) (bit_at mask i == 1) all) [
          | inr t ↦ eqb-true (bit_at mask i) 1 t
          | inl f ↦ absurd (never ((at i).class == (at i).class) (same_number (at i).class (at i).class refl) (from_not ((at i).class == (at i).class) f))
        ]
      where
        never : (b : Bool) → b ≡ true → b ≡ false → ⊥
        never b p q = cc

    allowed_starts : Within (with_classes (constant_classes normal) given) allowed
    allowed_starts c h =
        let below : c < normal.count = subst (λ n. c < n) (counted given) (has_below (with_classes (constant_classes normal) given) c h) in
        to_allowed c below (λ i l e. elim (has-with_cases given (constant_classes normal) c h) [
          | inl k ↦ absurd (no_candidate_is i l e (cover_is_least.from_start c k))
          | inr m ↦ holds_in held mask i least.from_start (held_by_class held c m i l e)
        ])
      where
        no_candidate_is : (i : ℕ) → i < length found → (at i).class ≡ c → has cover c ≡ true → ⊥
        no_candidate_is i l e k =
            let free = candidate_free (at i).class (class_at_position i l) in
            let held = subst (λ d. has cover d ≡ true) (sym e) k in
            cc

    allowed_closed : IsClosed normal accesses allowed
    allowed_closed u m keys = all_by (has allowed) (fetched_classes normal u) (λ c h.
        let q = Has-from_map (class_at normal u.atom) u.access.fetched c h in
        let below : c < normal.count = subst (λ k. k < normal.count) (sym q.2) (classes_in_range block shape u.atom q.0) in
        to_allowed c below (λ i l e.
        let among = classes_among u u.access.fetched (at i) (subst (Has (fetched_classes normal u)) (sym e) h) in
        holds_in (gives_mask u) mask i gives_in (mask_has (is_among normal u.atom u.access.fetched) found i no_candidate l among)))
      where
        key_in : within (key_mask u) mask ≡ true
        key_in = within_by (key_mask u) mask (λ i e.
            let r = mask_at (is_among normal u.atom u.access.key) found i no_candidate e in
            from_allowed i r.0 (all_has (has allowed) (key_classes normal u) (at i).class keys (among_classes u u.access.key (at i) r.1)))

        gives_in : within (gives_mask u) mask ≡ true
        gives_in = least.closed (rule_of normal found u) (Contains-from_has rules (rule_of normal found u)
            (Has-map (rule_of normal found) (uses normal accesses) u (Has-from_contains (uses normal accesses) u m))) key_in

    reached_allowed : Within reached allowed
    reached_allowed = (reached_is_least given).least allowed allowed_starts allowed_closed

    pub reached_key : (u : Use) → holds_classes reached (key_classes normal u) ≡ true → within (key_mask u) mask ≡ true
    reached_key u keys = within_by (key_mask u) mask (λ i e.
        let r = mask_at (is_among normal u.atom u.access.key) found i no_candidate e in
        from_allowed i r.0 (reached_allowed (at i).class
        (all_has (has reached) (key_classes normal u) (at i).class keys (among_classes u u.access.key (at i) r.1))))
