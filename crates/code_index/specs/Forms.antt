-- The tuples of a group, in each form.
--     tuples_of form        the tuples, each with the number of rows that have it
use Rattle.std.specs.Prelude.{List}
use Rattle.labelled_list.specs.declared.coded.Coded.{Coded}
use Rattle.code_index.specs.declared.form.Form.{Form}
use Rattle.code_index.specs.declared.form.Form.TheVariants.{Short, Labelled}

abbrev pub tuples_of : Form → List Coded
tuples_of (Short tuples) = tuples
tuples_of (Labelled tuples) = tuples.value
