use Rattle.std.proofs.Common.{◌≡◌, ◌∙◌, ◌<◌, ◌+◌, [], length, get_or, ap, sym, subst, arith}
use Rattle.std.specs.Prelude.{pos}
use Rattle.std.proofs.lemmas.List.{get_or_default}
use Rattle.beas_core.specs.declared.value.Value.TheVariants.{Int}
use Rattle.beas_core.specs.Groups.{member_columns, value_in}
use Rattle.access_index.specs.declared.start.GroupStart.{GroupStart}
use Rattle.access_index.specs.Index.{start_at}
use Rattle.code_index.specs.Codes.{value_of}
use Rattle.code_index.specs.Reading.{codes_at, code_in}
use Rattle.word_index.specs.Widths.{index_in}
use Rattle.word_index.proofs.ProbeFacts.{member_within, member_few, member_is, member_code}
use Rattle.word_index.proofs.probing.value_in_hits.Goals as goal

pub overflow_add-start : goal.overflow_add-start
overflow_add-start c =
    let kept = c.requires.kept in
    let start : c.unpack-start.result ≡ start_at c.args.hits.now.place = c.unpack-start.ensures ∙ ap start_at c.place.ensures in
    omega (
      arith,
      ap (λ (s : GroupStart). s.from) start,
      member_few c.args.codes.now (index_in c.args.index.now) kept.in_order kept.few c.args.hits.now c.args.i c.requires.stands c.requires.member,
    )

pub word-requires-clause-member : goal.word-requires-clause-member
word-requires-clause-member c =
    let kept = c.requires.kept in
    let index = index_in c.args.index.now in
    let hits = c.args.hits.now in
    let i = c.args.i in
    let start : c.unpack-start.result ≡ start_at hits.place = c.unpack-start.ensures ∙ ap start_at c.place.ensures in
    subst (λ p. c.unpack-start.result.from + i < length (codes_at index p)) (sym c.from.ensures)
    (subst (λ (s : GroupStart). s.from + i < length (codes_at index s.bucket)) (sym start)
    (member_within c.args.codes.now index kept.in_order kept.few hits i c.requires.stands c.requires.member))

pub value-requires : goal.value-requires
value-requires c =
    let kept = c.requires.kept in
    let index = index_in c.args.index.now in
    let columns = member_columns index.access in
    let hits = c.args.hits.now in
    let i = c.args.i in
    let start : c.unpack-start.result ≡ start_at hits.place = c.unpack-start.ensures ∙ ap start_at c.place.ensures in
    let code = member_code c.args.codes.now index kept.in_order kept.few hits i c.requires.stands c.requires.member c.args.column c.requires.column in
    let is = c.word.ensures
    ∙ ap (λ p. code_in columns (get_or (codes_at index p) (c.unpack-start.result.from + i) []) c.args.column) c.from.ensures
    ∙ ap (λ (s : GroupStart). code_in columns (get_or (codes_at index s.bucket) (s.from + i) []) c.args.column) start in
    omega (arith, is, code.known)

pub returns : goal.returns
returns c =
    let kept = c.requires.kept in
    let codes = c.args.codes.now in
    let index = index_in c.args.index.now in
    let columns = member_columns index.access in
    let hits = c.args.hits.now in
    let i = c.args.i in
    let start : c.unpack-start.result ≡ start_at hits.place = c.unpack-start.ensures ∙ ap start_at c.place.ensures in
    let code = member_code codes index kept.in_order kept.few hits i c.requires.stands c.requires.member c.args.column c.requires.column in
    let is = c.word.ensures
    ∙ ap (λ p. code_in columns (get_or (codes_at index p) (c.unpack-start.result.from + i) []) c.args.column) c.from.ensures
    ∙ ap (λ (s : GroupStart). code_in columns (get_or (codes_at index s.bucket) (s.from + i) []) c.args.column) start in
    let within : c.word.result < length codes = omega (arith, is, code.known) in
    c.value.ensures ∙ get_or_default codes c.word.result c.value.result.now (Int (pos 0)) within ∙ ap (value_of codes) is ∙ code.same
    ∙ ap (λ t. value_in columns t c.args.column)
    (sym (member_is codes index kept.in_order kept.few hits i c.requires.stands c.requires.member))
