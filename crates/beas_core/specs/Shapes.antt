-- Well-formed blocks, queries and constraints.
--     IsPlace atoms place           the place names an atom and a column of it
--     BlockIsWellFormed block       1 to 16 atoms of 1 to 64 columns each, and places alone that name a column of an atom
--     QueryIsWellFormed t           its blocks are, and their outputs have one length
--     EachIdOnce accesses           no two constraints have one id
--     AccessIsWellFormed width a    it fetches at least one column of its table, names none twice in one list, and has a bound of at least 1
use Rattle.std.specs.Prelude.{◌≡◌, ◌≢◌, ◌<◌, ◌≤◌, ℕ, List, length, map, All, AllPairs, slice_index_or}
use Rattle.beas_core.specs.declared.schema.ColumnId.{ColumnId}
use Rattle.beas_core.specs.declared.schema.Access.{Access}
use Rattle.beas_core.specs.declared.query.Atom.{Atom}
use Rattle.beas_core.specs.declared.query.Place.{Place}
use Rattle.beas_core.specs.declared.query.Operand.{Operand}
use Rattle.beas_core.specs.declared.query.Operand.TheVariants.{At, Fixed}
use Rattle.beas_core.specs.declared.query.Comparison.{Comparison}
use Rattle.beas_core.specs.declared.query.Sign.TheVariants.{Equal}
use Rattle.beas_core.specs.declared.query.Block.{Block}
use Rattle.beas_core.specs.Trees.{QueryTree, blocks_of}

-- the number of columns of an atom, 0 where there is no such atom
abbrev pub width_of : List Atom → ℕ → ℕ
width_of atoms atom = slice_index_or (map (λ a. a.width) atoms) atom 0

pub record IsPlace (atoms : List Atom) (place : Place) : Type 0 where
  pub atom : place.atom < length atoms
  pub column : place.column.0 < width_of atoms place.atom

abbrev pub OperandIsPlace : List Atom → Operand → Type 0
OperandIsPlace atoms (At place) = IsPlace atoms place
OperandIsPlace atoms (Fixed value) = Unit {0}

pub record ComparisonIsWellFormed (atoms : List Atom) (c : Comparison) : Type 0 where
  pub left : IsPlace atoms c.left
  pub right : OperandIsPlace atoms c.right
  pub sign : c.sign ≢ Equal

pub record AtomIsWellFormed (atom : Atom) : Type 0 where
  pub wide : 1 ≤ atom.width
  pub narrow : atom.width ≤ 64

pub record BlockIsWellFormed (block : Block) : Type 0 where
  pub some_atom : 1 ≤ length block.atoms
  pub few_atoms : length block.atoms ≤ 16
  pub widths : All AtomIsWellFormed block.atoms
  pub equalities : All (λ e. IsPlace block.atoms e.0 × IsPlace block.atoms e.1) block.equalities
  pub constants : All (λ c. IsPlace block.atoms c.0) block.constants
  pub comparisons : All (ComparisonIsWellFormed block.atoms) block.comparisons
  pub output : All (IsPlace block.atoms) block.output

pub record QueryIsWellFormed (t : QueryTree) : Type 0 where
  pub blocks : All BlockIsWellFormed (blocks_of t)
  pub shapes : AllPairs (λ b c. length b.output ≡ length c.output) (blocks_of t)

-- no column stands twice
abbrev pub EachOnce : List ColumnId → Type 0
EachOnce columns = AllPairs (λ c d. c.0 ≢ d.0) columns

pub record AccessIsWellFormed (width : ℕ) (access : Access) : Type 0 where
  pub fetches : 1 ≤ length access.fetched
  pub key_once : EachOnce access.key
  pub fetched_once : EachOnce access.fetched
  pub key_columns : All (λ c. c.0 < width) access.key
  pub fetched_columns : All (λ c. c.0 < width) access.fetched
  pub bound : 1 ≤ access.bound

-- no two constraints have one id
abbrev pub EachIdOnce : List Access → Type 0
EachIdOnce accesses = AllPairs (λ a b. a.id.0 ≢ b.id.0) accesses
