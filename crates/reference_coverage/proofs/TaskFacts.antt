-- The tasks of a query whose blocks may use the same constraints.
--     same_tasks         their numbers don't matter
--     length_tasks       they are as many as the blocks
--     few_tasks          the atoms of each are few where the places of each block are
--     both_few           a tree's blocks have few places where those of both sides have
use Rattle.std.proofs.Common.{◌≡◌, ◌<◌, ◌+◌, ◌&&◌, ◌++◌, ◌∙◌, ℕ, Bool, true, false, List, [], length, refl, ap, sym, subst}
use Rattle.std.specs.Prelude.{◌↔◌, IsTrue, All}
use Rattle.std.specs.List.{enumerate_from}
use Rattle.std.proofs.lemmas.List.{length-map, length-append}
use Rattle.std.proofs.lemmas.List.Elements.{All-nil, All-cons, All-append}
use Rattle.std.proofs.lemmas.List.FromFn.{length-enumerate_from}
use Rattle.beas_core.specs.declared.schema.Access.{Access}
use Rattle.beas_core.specs.declared.query.Block.{Block}
use Rattle.beas_core.specs.Trees.{QueryTree, Single, Either, Minus, blocks_of}
use Rattle.beas_core.specs.Classes.{needed_columns, normal_of}
use Rattle.beas_core.specs.Guiding.{after, tasks_from}
use Rattle.reference_normal_form.specs.Few.{HasFewPlaces}
use Rattle.reference_coverage.specs.Tasks.{BlocksHaveFewPlaces, HasFewAtoms, tasks_with}

few_needed : (block : Block) → HasFewPlaces block → length (normal_of block).needed < 65536
unfolding normal_of
few_needed block few =
    subst (λ n. n < 65536)
    (sym (length-map (enumerate_from 0 block.atoms) (λ a. needed_columns block a.0 a.1.width) ∙ length-enumerate_from 0 block.atoms))
    few.atoms

few_atoms : (block : Block) → HasFewPlaces block → length (normal_of block).atoms < 65536
unfolding normal_of
few_atoms block few = few.atoms

module _ (accesses : List Access) where
  pub same_tasks : (n : ℕ) (has : Bool) (t : QueryTree) → tasks_from (λ m. accesses) n has t ≡ tasks_with accesses has t
  same_tasks n has (Single block) = refl
  same_tasks n has (Either l r) =
      ap (λ ts. ts ++ tasks_from (λ m. accesses) (after n l) has r) (same_tasks n has l)
      ∙ ap (λ ts. tasks_with accesses has l ++ ts) (same_tasks (after n l) has r)
  same_tasks n has (Minus l r) =
      ap (λ ts. ts ++ tasks_from (λ m. accesses) (after n l) true r) (same_tasks n has l)
      ∙ ap (λ ts. tasks_with accesses has l ++ ts) (same_tasks (after n l) true r)

  pub length_tasks : (has : Bool) (t : QueryTree) → length (tasks_with accesses has t) ≡ length (blocks_of t)
  length_tasks has (Single block) = refl
  length_tasks has (Either l r) =
      length-append (tasks_with accesses has l) (tasks_with accesses has r)
      ∙ ap (λ n. n + length (tasks_with accesses has r)) (length_tasks has l)
      ∙ ap (λ n. length (blocks_of l) + n) (length_tasks has r)
      ∙ sym (length-append (blocks_of l) (blocks_of r))
  length_tasks has (Minus l r) =
      length-append (tasks_with accesses has l) (tasks_with accesses true r)
      ∙ ap (λ n. n + length (tasks_with accesses true r)) (length_tasks has l)
      ∙ ap (λ n. length (blocks_of l) + n) (length_tasks true r)
      ∙ sym (length-append (blocks_of l) (blocks_of r))

  pub few_tasks : (has : Bool) (t : QueryTree) → BlocksHaveFewPlaces t → All HasFewAtoms (tasks_with accesses has t)
  few_tasks has (Single block) few =
      All-cons HasFewAtoms (record { normal = normal_of block; accesses = accesses; has_guide = has }) []
      (record { atoms = few_atoms block few; needed = few_needed block few }) (All-nil HasFewAtoms)
  few_tasks has (Either l r) few =
      All-append HasFewAtoms (tasks_with accesses has l) (tasks_with accesses has r) (few_tasks has l few.0) (few_tasks has r few.1)
  few_tasks has (Minus l r) few =
      All-append HasFewAtoms (tasks_with accesses has l) (tasks_with accesses true r) (few_tasks has l few.0) (few_tasks true r few.1)

pub both_few : (a b : Bool) (l r : QueryTree) → (IsTrue a ↔ BlocksHaveFewPlaces l) → (IsTrue b ↔ BlocksHaveFewPlaces r)
    → (IsTrue (a && b) ↔ (BlocksHaveFewPlaces l × BlocksHaveFewPlaces r))
both_few true b l r f g = (λ t. (f.0 refl, g.0 t), λ few. g.1 few.1)
both_few false b l r f g = (λ t. absurd (no t), λ few. f.1 few.0)
  where
    no : false ≡ true → ⊥
    no e = cc
