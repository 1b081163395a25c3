-- Probes and reads of the fronts of a list of steps.
--     probes-snoc      the probes of one step more
--     reads-snoc       its reads
use Rattle.std.proofs.Common.{◌≡◌, ◌+◌, ℕ, List, [], ◌∷◌, ◌++◌, length, map, get_or, refl, ap, sym, ◌∙◌, arith}
use Rattle.std.specs.List.{sum_by}
use Rattle.std.proofs.Math.Seq.{get_or-append_seam}
use Rattle.std.proofs.lemmas.List.{append_assoc, append-nil, map-append, length-map}
use Rattle.std.proofs.lemmas.List.Sums.{sum_by-append, sum-map}
use Rattle.beas_core.specs.declared.schema.Access.{Access}
use Rattle.beas_core.specs.declared.plan.DStep.{DStep}
use Rattle.beas_core.specs.declared.plan.Normal.{Normal}
use Rattle.beas_core.specs.Types.{TableRows, Guide}
use Rattle.beas_core.specs.Derivations.{access_in}
use Rattle.beas_core.specs.StepReads.{reads_at, reads_from}
use Rattle.beas_core.specs.Reads.{Probe, keys_after, probes_after, probes, probe_reads, access_of_step, reads_of}

pub sum_mapped : {A B : Type 0} (f : B → ℕ) (g : A → B) (xs : List A) → sum_by f (map g xs) ≡ sum_by (λ x. f (g x)) xs
sum_mapped {A} f g xs = sym (sum-map f (map g xs)) ∙ ap (sum_by (λ n. n)) (twice xs) ∙ sum-map (λ x. f (g x)) xs
  where
    twice : (ys : List A) → map f (map g ys) ≡ map (λ x. f (g x)) ys
    twice [] = refl
    twice (y ∷ ys) = ap (λ ns. f (g y) ∷ ns) (twice ys)

-- the constraint of a step, by its number
pub access_at : (accesses : List Access) (done later : List DStep) (s : DStep)
    → access_of_step accesses (done ++ s ∷ later) (length done) ≡ access_in accesses s.access
access_at accesses done later s =
    let of = λ (t : DStep). access_in accesses t.access in
    let none = access_in accesses (record { 0 = 0 }) in
    ap (λ xs. get_or xs (length done) none) (map-append of done (s ∷ later))
    ∙ ap (λ n. get_or (map of done ++ of s ∷ map of later) n none) (sym (length-map done of))
    ∙ get_or-append_seam (map of done) (of s) (map of later) none

module _ (rows : TableRows) (normal : Normal) (accesses : List Access) (guide : Guide) where
  -- the probes of one step
  abbrev of_step : List DStep → DStep → List Probe
  of_step done s = map (λ key. record { step = length done; key = key }) (keys_after rows normal accesses guide done s)

  abbrev counts : List DStep → Probe → ℕ
  counts all p = probe_reads rows (access_of_step accesses all p.step) p.key

  probes_after-append : (xs ys done : List DStep)
      → probes_after rows normal accesses guide done (xs ++ ys) ≡ probes_after rows normal accesses guide done xs ++ probes_after rows normal accesses guide
      (done ++ xs) ys
  probes_after-append [] ys done = ap (λ d. probes_after rows normal accesses guide d ys) (sym (append-nil done))
  probes_after-append (x ∷ xs) ys done =
      ap (λ ps. of_step done x ++ ps) (probes_after-append xs ys (done ++ x ∷ [])
      ∙ ap (λ d. probes_after rows normal accesses guide (done ++ x ∷ []) xs ++ probes_after rows normal accesses guide d ys)
      (append_assoc done (x ∷ []) xs))
      ∙ sym (append_assoc (of_step done x) (probes_after rows normal accesses guide (done ++ x ∷ []) xs)
      (probes_after rows normal accesses guide (done ++ x ∷ xs) ys))

  pub probes-append : (xs ys : List DStep)
      → probes rows normal accesses guide (xs ++ ys) ≡ probes rows normal accesses guide xs ++ probes_after rows normal accesses guide xs ys
  probes-append xs ys = probes_after-append xs ys []

  pub probes-snoc : (done : List DStep) (s : DStep)
      → probes rows normal accesses guide (done ++ s ∷ []) ≡ probes rows normal accesses guide done ++ map (λ key. record { step = length done; key = key })
      (keys_after rows normal accesses guide done s)
  probes-snoc done s = probes-append done (s ∷ []) ∙ ap (λ ps. probes rows normal accesses guide done ++ ps) (append-nil (of_step done s))

  step_counts : (done later : List DStep) (s : DStep) → sum_by (counts (done ++ s ∷ later)) (of_step done s) ≡ reads_at rows normal accesses guide done s
  step_counts done later s =
      sum_mapped (counts (done ++ s ∷ later)) (λ key. record { step = length done; key = key }) (keys_after rows normal accesses guide done s)
      ∙ ap (λ a. sum_by (probe_reads rows a) (keys_after rows normal accesses guide done s)) (access_at accesses done later s)

  counted_from : (steps done : List DStep)
      → sum_by (counts (done ++ steps)) (probes_after rows normal accesses guide done steps) ≡ reads_from rows normal accesses guide done steps
  counted_from [] done = refl
  counted_from (s ∷ steps) done =
      sum_by-append (counts (done ++ s ∷ steps)) (of_step done s) (probes_after rows normal accesses guide (done ++ s ∷ []) steps)
      ∙ ap (λ n. n + sum_by (counts (done ++ s ∷ steps)) (probes_after rows normal accesses guide (done ++ s ∷ []) steps)) (step_counts done steps s)
      ∙ ap (λ all. reads_at rows normal accesses guide done s + sum_by (counts all) (probes_after rows normal accesses guide (done ++ s ∷ []) steps))
      (sym (append_assoc done (s ∷ []) steps))
      ∙ ap (λ n. reads_at rows normal accesses guide done s + n) (counted_from steps (done ++ s ∷ []))

  pub reads_by_step : (steps : List DStep) → reads_of rows normal accesses guide steps ≡ reads_from rows normal accesses guide [] steps
  unfolding reads_of
  reads_by_step steps = counted_from steps []

  from-append : (xs ys done : List DStep) → reads_from rows normal accesses guide done (xs ++ ys) ≡ reads_from rows normal accesses guide done xs + reads_from
      rows normal accesses guide (done ++ xs) ys
  from-append [] ys done = ap (λ d. reads_from rows normal accesses guide d ys) (sym (append-nil done))
      ∙ zero_plus (reads_from rows normal accesses guide (done ++ []) ys)
    where
      zero_plus : (n : ℕ) → n ≡ 0 + n
      zero_plus n = omega arith
  from-append (x ∷ xs) ys done =
      let e = from-append xs ys (done ++ x ∷ []) in
      let d = ap (λ d. reads_from rows normal accesses guide d ys) (append_assoc done (x ∷ []) xs) in
      omega (arith, e, d)

  pub reads-append : (xs ys : List DStep) → reads_of rows normal accesses guide (xs ++ ys) ≡ reads_of rows normal accesses guide xs + reads_from rows normal
      accesses guide xs ys
  reads-append xs ys =
      let whole = reads_by_step (xs ++ ys) in
      let first = reads_by_step xs in
      let e = from-append xs ys [] in
      omega (arith, whole, first, e)

  pub reads-snoc : (done : List DStep) (s : DStep)
      → reads_of rows normal accesses guide (done ++ s ∷ []) ≡ reads_of rows normal accesses guide done + reads_at rows normal accesses guide done s
  reads-snoc done s = let e = reads-append done (s ∷ []) in omega (arith, e)
