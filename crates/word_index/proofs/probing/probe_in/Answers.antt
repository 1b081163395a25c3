use Rattle.std.proofs.Common.{◌∙◌, ap, arith}
use Rattle.access_index.specs.Index.{start_at}
use Rattle.word_index.specs.Widths.{index_in}
use Rattle.code_index.proofs.SpellingFacts.{few_columns}
use Rattle.word_index.proofs.ProbeFacts.{few_groups, group_members, group_len, group_stands}
use Rattle.word_index.proofs.probing.probe_in.Goals as goal

pub find_group-requires-clause-few : goal.find_group-requires-clause-few
find_group-requires-clause-few g c =
    let form = c.requires.kept.form in
    omega (arith, c.requires.width, few_columns 64 (index_in c.args.index.now).access.key form.key_once form.key_columns)

pub overflow_cast-start : goal.overflow_cast-start
overflow_cast-start g c =
    let kept = c.requires.kept in omega (arith, c.in-Some.ensures.stands, few_groups c.args.codes.now (index_in c.args.index.now) kept.in_order kept.few)

pub returns-in-Some-clause-members : goal.returns-in-Some-clause-members
returns-in-Some-clause-members g c rows is =
    let kept = c.requires.kept in
    group_members c.args.codes.now (index_in c.args.index.now) kept.in_order kept.few c.counted.result c.in-Some.group c.in-Some.ensures.stands
    (ap start_at c.counted.ensures.place ∙ c.pack.ensures) (c.counted.ensures.len ∙ c.in-Some.ensures.len)
    ∙ c.in-Some.ensures.group rows is

pub returns-in-Some-clause-len : goal.returns-in-Some-clause-len
returns-in-Some-clause-len g c =
    let kept = c.requires.kept in
    group_len c.args.codes.now (index_in c.args.index.now) kept.in_order kept.few c.counted.result c.in-Some.group c.in-Some.ensures.stands
    (ap start_at c.counted.ensures.place ∙ c.pack.ensures) (c.counted.ensures.len ∙ c.in-Some.ensures.len)

pub returns-in-Some-clause-stands : goal.returns-in-Some-clause-stands
returns-in-Some-clause-stands g c =
    let kept = c.requires.kept in
    group_stands c.args.codes.now (index_in c.args.index.now) kept.in_order kept.few c.counted.result c.in-Some.group c.in-Some.ensures.stands
    (ap start_at c.counted.ensures.place ∙ c.pack.ensures) (c.counted.ensures.len ∙ c.in-Some.ensures.len)
