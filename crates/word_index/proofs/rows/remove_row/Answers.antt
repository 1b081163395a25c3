use Rattle.std.proofs.Common.{subst}
use Rattle.beas_core.specs.declared.schema.Access.{Access}
use Rattle.beas_core.specs.Groups.{project, member_columns}
use Rattle.code_index.specs.Reading.{Spells}
use Rattle.code_index.specs.Spelling.{AllHaveCodes}
use Rattle.word_index.specs.Widths.{index_in}
use Rattle.word_index.proofs.UnknownFacts.{not_among}
use Rattle.word_index.proofs.rows.remove_row.Goals as goal

pub returns-in-Some-clause-rest : goal.returns-in-Some-clause-rest
returns-in-Some-clause-rest c front back is =
    let spells = subst (λ (a : Access). Spells c.args.codes.now (member_columns a) c.in-Some.row_codes c.args.row.now) c.access.ensures c.in-Some.ensures in
    c.remove.ensures.rest c.args.codes.now c.args.row.now front back c.requires.in_order spells is

pub returns-in-None-clause-rest : goal.returns-in-None-clause-rest
returns-in-None-clause-rest c front back is =
    let none = subst (λ (a : Access). AllHaveCodes c.args.codes.now (project (member_columns a) c.args.row.now) → ⊥) c.access.ensures c.in-None.ensures in
    absurd (not_among c.args.codes.now (index_in c.args.index.now) c.requires.in_order front back c.args.row.now is none)
