-- The places of a well-formed block of one atom fit the rows of its table.
use Rattle.std.proofs.Common.{◌≡◌, List, length, get_or, ap, arith}
use Rattle.beas_core.specs.declared.query.Atom.{Atom}
use Rattle.beas_core.specs.declared.query.Block.{Block}
use Rattle.beas_core.specs.declared.query.Operand.{Operand}
use Rattle.beas_core.specs.declared.query.Operand.TheVariants.{At, Fixed}
use Rattle.beas_core.specs.declared.query.Place.{Place}
use Rattle.beas_core.specs.Shapes.{BlockIsWellFormed, IsPlace, OperandIsPlace, width_of}
use Rattle.beas_core.specs.Types.{Row}
use Rattle.update_guard.specs.Filtering.{PlaceFits, OperandFits, BlockFits}

place_fits : (atoms : List Atom) (row : Row) (p : Place) → length atoms ≡ 1 → width_of atoms 0 ≡ length row → IsPlace atoms p → PlaceFits row p
place_fits atoms row p one wide is =
    let zero_atom : p.atom ≡ 0 = omega (arith, is.atom, one) in
    record { atom = zero_atom; column = omega (arith, is.column, ap (width_of atoms) zero_atom, wide) }

operand_fits : (atoms : List Atom) (row : Row) (o : Operand) → length atoms ≡ 1 → width_of atoms 0 ≡ length row → OperandIsPlace atoms o → OperandFits row o
operand_fits atoms row (At p) one wide is = place_fits atoms row p one wide is
operand_fits atoms row (Fixed v) one wide is = tt

pub block_fits : (block : Block) (row : Row) → BlockIsWellFormed block → length block.atoms ≡ 1 → width_of block.atoms 0 ≡ length row → BlockFits row block
block_fits block row form one wide = record {
  equalities_left = λ k d l. place_fits block.atoms row (get_or block.equalities k d).0 one wide (form.equalities k d l).0;
  equalities_right = λ k d l. place_fits block.atoms row (get_or block.equalities k d).1 one wide (form.equalities k d l).1;
  constants = λ k d l. place_fits block.atoms row (get_or block.constants k d).0 one wide (form.constants k d l);
  comparisons_left = λ k d l. place_fits block.atoms row (get_or block.comparisons k d).left one wide (form.comparisons k d l).left;
  comparisons_right = λ k d l. operand_fits block.atoms row (get_or block.comparisons k d).right one wide (form.comparisons k d l).right;
}
