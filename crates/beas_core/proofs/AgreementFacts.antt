-- What a block answers, probes and reads depends on the constraints of its steps and on the rows of its tables alone.
use Rattle.std.proofs.Common.{◌≡◌, ◌+◌, ◌++◌, ◌∙◌, List, [], ◌∷◌, map, length, max, refl, ap, sym, sum_by, flat_map}
use Rattle.std.specs.Prelude.{All, filter, is_some}
use Rattle.std.proofs.lemmas.List.Elements.{All-head, All-tail, All-push, All-nil, All-contains}
use Rattle.beas_core.specs.declared.schema.Access.{Access}
use Rattle.beas_core.specs.declared.plan.DStep.{DStep}
use Rattle.beas_core.specs.declared.plan.Normal.{Normal}
use Rattle.beas_core.specs.declared.query.Atom.{Atom}
use Rattle.beas_core.specs.declared.query.Block.{Block}
use Rattle.beas_core.specs.Types.{Row, TableRows, ClassSet, Bindings, Guide}
use Rattle.beas_core.specs.Order.{row_cmp}
use Rattle.beas_core.specs.Sets.{distinct}
use Rattle.beas_core.specs.Groups.{group_of, member_columns, value_at}
use Rattle.beas_core.specs.Coverage.{class_at, start_classes}
use Rattle.beas_core.specs.Derivations.{access_in, table_of, bound_after}
use Rattle.beas_core.specs.Full.{choices, choice_value, meets, full_of_block}
use Rattle.beas_core.specs.Reads.{Probe, keys_for, keys_after, probes_after, probes, probe_reads, step_reads, reads_of}
use Rattle.beas_core.specs.Valuations.{bindings_of, with_row_for, ways, starts, value_of, as_bindings, valued_rows, valuations}
use Rattle.beas_core.proofs.Sets.{Contains-from_has}
use Rattle.beas_core.specs.StepReads.{reads_at, reads_from}
use Rattle.beas_core.proofs.ReadFacts.{reads_by_step}
use Rattle.beas_core.proofs.MoreAccesses.{bound_agrees}
use Rattle.beas_core.specs.Agreement.{SameStep, SameSteps}

module _ (normal : Normal) (few many : List Access) (old new : TableRows) where
  abbrev Same : DStep → Type 0
  Same = SameStep normal few many old new

  pub bound-agrees : (steps : List DStep) (set : ClassSet) → All Same steps → bound_after normal many set steps ≡ bound_after normal few set steps
  bound-agrees steps set same = bound_agrees normal few many steps set
      (λ s m. (All-contains Same steps s same (Contains-from_has steps s m)).access)

  row_for-agrees : (found : List Bindings) (s : DStep) → Same s → with_row_for new normal many found s ≡ with_row_for old normal few found s
  row_for-agrees found s same =
      ap (λ rows. flat_map (λ w. map (λ row. w ++ bindings_of normal many s row) rows) found) same.rows
      ∙ ap (λ (a : Access). flat_map (λ w. map (λ row. w ++ map (λ c. (class_at normal s.atom c, value_at row c)) (member_columns a))
      (old (table_of normal s.atom))) found) same.access

  ways-agree : (steps : List DStep) (begin : List Bindings) → All Same steps → ways new normal many begin steps ≡ ways old normal few begin steps
  ways-agree [] begin same = refl
  ways-agree (s ∷ steps) begin same =
      ways-agree steps (with_row_for new normal many begin s) (All-tail Same s steps same)
      ∙ ap (λ found. ways old normal few found steps) (row_for-agrees begin s (All-head Same s steps same))

  pub valuations-agree : (guide : Guide) (steps : List DStep) → SameSteps normal few many old new steps
      → valuations new normal many guide steps ≡ valuations old normal few guide steps
  unfolding valuations
  valuations-agree guide steps same =
      ap (λ set. valued_rows normal set (ways new normal many (starts normal guide) steps)) (bound-agrees steps (start_classes normal (is_some guide)) same)
      ∙ ap (valued_rows normal (bound_after normal few (start_classes normal (is_some guide)) steps)) (ways-agree steps (starts normal guide) same)

  keys_for-agrees : (s : DStep) (set : ClassSet) (found : List Row) → Same s → keys_for normal many s set found ≡ keys_for normal few s set found
  keys_for-agrees s set found same =
      ap (λ (a : Access). distinct row_cmp (map (λ v. map (λ c. value_of (as_bindings set v) (class_at normal s.atom c)) a.key) found)) same.access

  keys_after-agrees : (guide : Guide) (done : List DStep) (s : DStep) → All Same done → Same s
      → keys_after new normal many guide done s ≡ keys_after old normal few guide done s
  keys_after-agrees guide done s front same =
      let start = start_classes normal (is_some guide) in
      ap (λ set. keys_for normal many s set (valuations new normal many guide done)) (bound-agrees done start front)
      ∙ ap (keys_for normal many s (bound_after normal few start done)) (valuations-agree guide done front)
      ∙ keys_for-agrees s (bound_after normal few start done) (valuations old normal few guide done) same

  probes_after-agree : (guide : Guide) (steps done : List DStep) → All Same done → All Same steps
      → probes_after new normal many guide done steps ≡ probes_after old normal few guide done steps
  probes_after-agree guide [] done front same = refl
  probes_after-agree guide (s ∷ steps) done front same =
      let here = All-head Same s steps same in
      let of : List Row → List Probe = map (λ key. record { step = length done; key = key }) in
      ap (λ keys. of keys ++ probes_after new normal many guide (done ++ s ∷ []) steps) (keys_after-agrees guide done s front here)
      ∙ ap (λ rest. of (keys_after old normal few guide done s) ++ rest)
      (probes_after-agree guide steps (done ++ s ∷ []) (All-push Same done s front here) (All-tail Same s steps same))

  pub probes-agree : (guide : Guide) (steps : List DStep) → SameSteps normal few many old new steps
      → probes new normal many guide steps ≡ probes old normal few guide steps
  probes-agree guide steps same = probes_after-agree guide steps [] (All-nil Same) same

  step_reads-agrees : (s : DStep) (set : ClassSet) (found : List Row) → Same s → step_reads new normal many s set found ≡ step_reads old normal few s set found
  step_reads-agrees s set found same =
      ap (λ (a : Access). sum_by (probe_reads new a) (distinct row_cmp (map (λ v. map (λ c. value_of (as_bindings set v) (class_at normal s.atom c)) a.key) found)))
      same.access
      ∙ ap (λ rows. sum_by (λ key. max 1 (length (group_of rows (access_in few s.access) key))) (keys_for normal few s set found)) same.group_rows

  reads_at-agrees : (guide : Guide) (done : List DStep) (s : DStep) → All Same done → Same s
      → reads_at new normal many guide done s ≡ reads_at old normal few guide done s
  reads_at-agrees guide done s front same =
      let start = start_classes normal (is_some guide) in
      ap (λ set. step_reads new normal many s set (valuations new normal many guide done)) (bound-agrees done start front)
      ∙ ap (step_reads new normal many s (bound_after normal few start done)) (valuations-agree guide done front)
      ∙ step_reads-agrees s (bound_after normal few start done) (valuations old normal few guide done) same

  reads_from-agrees : (guide : Guide) (steps done : List DStep) → All Same done → All Same steps
      → reads_from new normal many guide done steps ≡ reads_from old normal few guide done steps
  reads_from-agrees guide [] done front same = refl
  reads_from-agrees guide (s ∷ steps) done front same =
      let here = All-head Same s steps same in
      ap (λ n. n + reads_from new normal many guide (done ++ s ∷ []) steps) (reads_at-agrees guide done s front here)
      ∙ ap (λ n. reads_at old normal few guide done s + n)
      (reads_from-agrees guide steps (done ++ s ∷ []) (All-push Same done s front here) (All-tail Same s steps same))

  pub reads-agree : (guide : Guide) (steps : List DStep) → SameSteps normal few many old new steps
      → reads_of new normal many guide steps ≡ reads_of old normal few guide steps
  reads-agree guide steps same =
      reads_by_step new normal many guide steps ∙ reads_from-agrees guide steps [] (All-nil Same) same ∙ sym (reads_by_step old normal few guide steps)

module _ (old new : TableRows) where
  choices-agree : (atoms : List Atom) → All (λ a. new a.table ≡ old a.table) atoms → choices new atoms ≡ choices old atoms
  choices-agree [] same = refl
  choices-agree (a ∷ atoms) same =
      ap (λ rest. flat_map (λ row. map (λ others. row ∷ others) rest) (new a.table))
      (choices-agree atoms (All-tail (λ (a : Atom). new a.table ≡ old a.table) a atoms same))
      ∙ ap (flat_map (λ row. map (λ others. row ∷ others) (choices old atoms))) (All-head (λ (a : Atom). new a.table ≡ old a.table) a atoms same)

  pub block-agrees : (block : Block) → All (λ a. new a.table ≡ old a.table) block.atoms → full_of_block new block ≡ full_of_block old block
  unfolding full_of_block
  block-agrees block same =
      ap (λ found. distinct row_cmp (map (λ choice. map (choice_value choice) block.output) (filter (meets block) found))) (choices-agree block.atoms same)
