use Rattle.std.proofs.Common.{◌∙◌, refl, sym}
use Rattle.specialise.proofs.alike.are_alike.Goals as goal

pub returns : goal.returns
returns c t = record {
  table = c.if-one-other.false;
  key = sym c.as_slice.ensures ∙ c.if-not-are_same_columns.ensures refl ∙ c.as_slice-2.ensures;
  fetched = sym c.as_slice-3.ensures ∙ c.are_same_columns-2.ensures t ∙ c.as_slice-4.ensures;
}
