-- The index that stands in an index of any width.
--     index_in index        it, whatever its width
use Rattle.word_index.specs.declared.any.AnyIndex.{AnyIndex}
use Rattle.word_index.specs.declared.any.AnyIndex.TheVariants.{Zero, One, Two, Three, Four, Long}
use Rattle.code_index.specs.Reading.{CodeIndex}

abbrev pub index_in : AnyIndex → CodeIndex
index_in (Zero index) = index
index_in (One index) = index
index_in (Two index) = index
index_in (Three index) = index
index_in (Four index) = index
index_in (Long index) = index
