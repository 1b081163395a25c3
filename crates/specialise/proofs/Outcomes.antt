-- What is answered of a block, case by case.
use Rattle.std.proofs.Common.{◌≡◌, ◌==◌, ◌&&◌, ◌<◌, ◌≤◌, ℕ, Bool, true, false, not, cond, nat_lt, List, [], ◌∷◌, length, map, Option, Some, None, Result, Ok, Err, ap, sym, ◌∙◌, subst, arith, add-one, inl, inr}
use Rattle.std.specs.List.{list_any, find, flat_map, range_with_len}
use Rattle.std.specs.Option.{option_map}
use Rattle.std.proofs.lemmas.Bool.{lt-ltb, ltb-true}
use Rattle.std.proofs.lemmas.List.{append-nil, length-map}
use Rattle.std.proofs.lemmas.List.FromFn.{length-range_with_len}
use Rattle.beas_core.specs.declared.schema.Access.{Access}
use Rattle.beas_core.specs.declared.query.Place.{Place}
use Rattle.beas_core.specs.declared.query.Block.{Block}
use Rattle.beas_core.specs.declared.plan.Normal.{Normal}
use Rattle.beas_core.specs.declared.plan.NotCovered.{NotCovered}
use Rattle.beas_core.specs.declared.refusal.Refusal.{Refusal}
use Rattle.beas_core.specs.declared.refusal.Refusal.TheVariants.{TooManyCandidates}
use Rattle.beas_core.specs.Types.{ClassSet}
use Rattle.beas_core.specs.Classes.{normal_of}
use Rattle.beas_core.specs.Coverage.{has, is_covered, own_cover, own_is_covered, reason}
use Rattle.beas_core.proofs.MemberTests.{which}
use Rattle.beas_core.proofs.ReasonFacts.{reason-covered, covered-reason}
use Rattle.beas_core.proofs.SetSizes.{length-filter_le}
use Rattle.specialise.specs.declared.candidates.Candidate.{Candidate}
use Rattle.specialise.specs.Trials.{candidate_of}
use Rattle.specialise.specs.Specialised.{asked_classes, candidates, first_place, first_set, is_covered_with, sets_of, specialised, sublists}

abbrev pub Answer : Type 0
Answer = Result (Option (List Place)) Refusal

abbrev pub answer_with : List Place → Answer
answer_with places = Ok (Some places)

module _ (accesses : List Access) (block : Block) where
  abbrev answer_by : Bool → Answer
  answer_by b = cond b (Err (TooManyCandidates (length (candidates accesses block)))) (Ok (option_map (map (first_place block)) (first_set accesses block)))

  abbrev answer_of : Option (List ℕ) → Answer
  answer_of o = Ok (option_map (map (first_place block)) o)

  sets_begin : (cs : List ℕ) → sets_of cs ≡ [] ∷ flat_map (λ n. sublists n cs) (range_with_len 1 (length cs))
  sets_begin cs = ap (λ n. flat_map (λ k. sublists k cs) (range_with_len 0 n)) (add-one (length cs))

  no_more : own_is_covered (normal_of block) accesses ≡ true → is_covered_with accesses block [] ≡ true
  no_more h = ap (λ cs. own_is_covered (normal_of (record block { constants = cs })) accesses) (append-nil block.constants) ∙ h

  pub covered_is : own_is_covered (normal_of block) accesses ≡ true → specialised accesses block ≡ Ok (Some [])
  covered_is h =
      let none : List ℕ = [] in
      let rest = flat_map (λ n. sublists n (candidates accesses block)) (range_with_len 1 (length (candidates accesses block))) in
      ap answer_by (ap (λ b. not b && nat_lt 16 (length (candidates accesses block))) h)
      ∙ ap (λ ss. answer_of (find (is_covered_with accesses block) ss)) (sets_begin (candidates accesses block))
      ∙ ap (λ b. answer_of (cond b (Some none) (find (is_covered_with accesses block) rest))) (no_more h)

  pub refused_is : own_is_covered (normal_of block) accesses ≡ false → 16 < length (candidates accesses block)
      → specialised accesses block ≡ Err (TooManyCandidates (length (candidates accesses block)))
  refused_is h l = ap answer_by (ap (λ b. not b && nat_lt 16 (length (candidates accesses block))) h ∙ lt-ltb 16 (length (candidates accesses block)) l)

  pub searched_is : own_is_covered (normal_of block) accesses ≡ false → length (candidates accesses block) ≤ 16
      → specialised accesses block ≡ Ok (option_map (map (first_place block)) (first_set accesses block))
  searched_is h l = ap answer_by (ap (λ b. not b && nat_lt 16 (length (candidates accesses block))) h ∙ few)
    where
      few : nat_lt 16 (length (candidates accesses block)) ≡ false
      few = elim (which (nat_lt 16 (length (candidates accesses block)))) [
        | inr e ↦ e
        | inl e ↦ absurd (let m = ltb-true 16 (length (candidates accesses block)) e in omega arith)
      ]

module _ (accesses : List Access) (block : Block) (normal : Normal) (en : normal ≡ normal_of block) (cover : ClassSet) (ec : cover ≡ own_cover normal accesses) where
  own_test : is_covered normal accesses cover ≡ own_is_covered (normal_of block) accesses
  own_test = ap (is_covered normal accesses) ec ∙ ap (λ n. own_is_covered n accesses) en

  pub covered_when : reason normal accesses cover ≡ None → own_is_covered (normal_of block) accesses ≡ true
  covered_when e = sym own_test ∙ reason-covered normal accesses cover e

  pub open_when : (reason normal accesses cover ≡ None → ⊥) → own_is_covered normal accesses ≡ false
  open_when ne = elim (which (own_is_covered normal accesses)) [
    | inr e ↦ e
    | inl e ↦ absurd (ne (covered-reason normal accesses cover (ap (is_covered normal accesses) ec ∙ e)))
  ]

module _ (accesses : List Access) (block : Block) (normal : Normal) (en : normal ≡ normal_of block) (found : List Candidate)
    (is : found ≡ map (candidate_of block) (candidates accesses block)) where
  counted : length found ≡ length (candidates accesses block)
  counted = ap length is ∙ length-map (candidates accesses block) (candidate_of block)

  pub few_found : length found ≤ normal.count
  few_found =
      let l : length (candidates accesses block) ≤ length (range_with_len 0 (normal_of block).count) = length-filter_le (λ c. not (has (own_cover (normal_of block) accesses) c) && list_any (λ d. d == c) (asked_classes (normal_of block) accesses))
      (range_with_len 0 (normal_of block).count) in
      let r = length-range_with_len 0 (normal_of block).count in
      let e = ap (λ n. n.count) en in
      let k = counted in
      omega arith

  open_block : own_is_covered normal accesses ≡ false → own_is_covered (normal_of block) accesses ≡ false
  open_block h = ap (λ n. own_is_covered n accesses) (sym en) ∙ h

  pub refused_by : own_is_covered normal accesses ≡ false → (n : ℕ) → n ≡ length found → 16 < n → (why : Refusal) → why ≡ TooManyCandidates n
      → specialised accesses block ≡ Err why
  refused_by h n e l why ew =
      let k : n ≡ length (candidates accesses block) = e ∙ counted in
      let made : ℕ → Answer = λ m. Err (TooManyCandidates m) in
      let err : Refusal → Answer = λ w. Err w in
      refused_is accesses block (open_block h) (subst (λ m. 16 < m) k l) ∙ ap made (sym k) ∙ ap err (sym ew)

  pub searched_by : own_is_covered normal accesses ≡ false → (n : ℕ) → n ≡ length found → n ≤ 16 → (answer : Option (List Place))
      → answer ≡ option_map (map (first_place block)) (first_set accesses block) → specialised accesses block ≡ Ok answer
  searched_by h n e l answer ea =
      let ok : Option (List Place) → Answer = λ o. Ok o in
      searched_is accesses block (open_block h) (subst (λ m. m ≤ 16) (e ∙ counted) l) ∙ ap ok (sym ea)

pub open_some : (accesses : List Access) (block : Block) (normal : Normal) → normal ≡ normal_of block → (cover : ClassSet) → cover ≡ own_cover normal accesses
    → (why : NotCovered) → Some why ≡ reason normal accesses cover → own_is_covered normal accesses ≡ false
open_some accesses block normal en cover ec why e = open_when accesses block normal en cover ec (λ h. some_none (e ∙ h))
  where
    some_none : Some why ≡ None → ⊥
    some_none k = cc

pub answer_over : (accesses others : List Access) (block other : Block) → accesses ≡ others → block ≡ other
    → option_map (map (first_place block)) (first_set accesses block) ≡ option_map (map (first_place other)) (first_set others other)
answer_over accesses others block other ea eb =
    ap (λ a. option_map (map (first_place block)) (first_set a block)) ea ∙ ap (λ b. option_map (map (first_place b)) (first_set others b)) eb
