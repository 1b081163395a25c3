-- The normal form of a well-formed block: its classes are in range, and its atoms are few.
use Rattle.std.proofs.Common.{◌≡◌, ◌<◌, ◌≤◌, ◌∙◌, ap, subst, sym, refl, suc, List, [], ◌∷◌, length, map, arith}
use Rattle.std.specs.List.{enumerate_from}
use Rattle.std.proofs.lemmas.List.FromFn.{length-enumerate_from}
use Rattle.beas_core.specs.declared.query.Block.{Block}
use Rattle.beas_core.specs.declared.plan.Normal.{Normal}
use Rattle.beas_core.specs.Shapes.{BlockIsWellFormed}
use Rattle.beas_core.specs.Classes.{needed_columns, normal_of}
use Rattle.beas_core.specs.Coverage.{ClassesInRange}
use Rattle.beas_core.proofs.ClassFacts.{classes_in_range}

pub in_range : (normal : Normal) (block : Block) → BlockIsWellFormed block → normal ≡ normal_of block → ClassesInRange normal
in_range normal block shape e = subst ClassesInRange (sym e) (classes_in_range block shape)

pub few_atoms : (normal : Normal) (block : Block) → BlockIsWellFormed block → normal ≡ normal_of block → length normal.atoms ≤ 16
unfolding normal_of
few_atoms normal block shape e = let a = ap (λ n. length n.atoms) e in let f = shape.few_atoms in omega arith

length_mapped : {A B : Type 0} (f : A → B) (xs : List A) → length (map f xs) ≡ length xs
length_mapped f [] = refl
length_mapped f (x ∷ xs) = ap suc (length_mapped f xs)

pub few_needed : (normal : Normal) (block : Block) → BlockIsWellFormed block → normal ≡ normal_of block → length normal.needed ≤ 16
unfolding normal_of
few_needed normal block shape e =
    let a = ap (λ n. length n.needed) e ∙ length_mapped (λ b. needed_columns block b.0 b.1.width) (enumerate_from 0 block.atoms)
    ∙ length-enumerate_from 0 block.atoms in
    let f = shape.few_atoms in
    omega arith
