use Rattle.std.proofs.Common.{◌≡◌, ◌<◌, ℕ, List, [], rules, get_or, length, ap, sym, ◌∙◌, subst, arith}
use Rattle.std.specs.Prelude.{Some, slice_get}
use Rattle.std.specs.List.{AllByRecursion}
use Rattle.std.specs.Map.{values_of}
use Rattle.std.proofs.lemmas.List.{get_or-map, length-map}
use Rattle.beas_core.specs.declared.value.Value.{Value}
use Rattle.beas_core.specs.Groups.{member_columns}
use Rattle.access_index.proofs.Holding.{at_place}
use Rattle.labelled_list.specs.declared.coded.Coded.{Coded}
use Rattle.code_index.specs.Reading.{CodeIndex, IsGroup, read_entries, codes_at, codes_in, code_in}
use Rattle.code_index.proofs.Ordering.{Entry}
use Rattle.code_index.proofs.Steps.{group_at, width_at}
use Rattle.code_index.proofs.keyed.KeyedIndex.word.Goals as goal

-- a tuple that stands in a group
module _ (codes : List Value) (n w : ℕ) (es : List Entry) (place i : ℕ) (group : List Coded)
    (buckets : AllByRecursion (λ e. IsGroup n w e.0 e.1) (read_entries codes es)) (is : slice_get (values_of es) place ≡ Some group)
    (member : i < length (codes_in (get_or (values_of es) place []))) where
  within : i < length group
  within = omega (
    arith,
    member,
    ap (λ g. length (codes_in g)) (at_place (values_of es) place group [] is),
    length-map group (λ (coded : Coded). coded.codes),
  )

  long : (tuple : List ℕ) → ((d : Coded) → tuple ≡ (get_or group i d).codes) → length tuple ≡ n
  long tuple here =
      let d : Coded = record { codes = []; count = 0 } in
      ap length (here d) ∙ width_at codes n group i d (group_at codes n w es place group buckets is).1.wide within

pub bounds-codes-at : goal.bounds-codes-at
bounds-codes-at g c =
    let access = c.self.inside.access in
    let es = c.self.inside.groups.entries in
    let w = c.self.invariant.1 in
    let member = subst (λ (x : CodeIndex). c.args.i < length (codes_at x c.args.place)) (sym c.self.view_is) c.requires.member in
    let wide = long w.codes (length (member_columns access)) (length access.key) es c.args.place c.args.i c.index.result.now w.in_order.stored.buckets
    c.index.ensures member c.codes.result.now c.codes.ensures in
    omega (arith, c.column_position-at.ensures.within, wide)

pub offset_bounds-codes-at : goal.offset_bounds-codes-at
offset_bounds-codes-at g c =
    let access = c.self.inside.access in
    let es = c.self.inside.groups.entries in
    let w = c.self.invariant.1 in
    let member = subst (λ (x : CodeIndex). c.args.i < length (codes_at x c.args.place)) (sym c.self.view_is) c.requires.member in
    let wide = long w.codes (length (member_columns access)) (length access.key) es c.args.place c.args.i c.index.result.now w.in_order.stored.buckets
    c.index.ensures member c.codes.result.now c.codes.ensures in
    let below : c.column_position-at.result < length c.codes.result.now = omega (arith, c.column_position-at.ensures.within, wide) in
    search rules

pub returns : goal.returns
returns g c =
    let access = c.self.inside.access in
    let es = c.self.inside.groups.entries in
    let w = c.self.invariant.1 in
    let i = c.args.i in
    let group = c.index.result.now in
    let tuple = c.codes.result.now in
    let at = c.column_position-at.result in
    let member = subst (λ (x : CodeIndex). i < length (codes_at x c.args.place)) (sym c.self.view_is) c.requires.member in
    let wide = long w.codes (length (member_columns access)) (length access.key) es c.args.place i group w.in_order.stored.buckets c.index.ensures member
    tuple c.codes.ensures in
    let inside = within w.codes (length (member_columns access)) (length access.key) es c.args.place i group w.in_order.stored.buckets c.index.ensures member in
    let d : Coded = record { codes = []; count = 0 } in
    subst (λ (x : CodeIndex). get_or tuple at 0 ≡ code_in (member_columns x.access) (get_or (codes_at x c.args.place) i []) c.args.column) c.self.view_is
    (sym (c.column_position-at.ensures.code tuple wide)
    ∙ ap (λ t. code_in (member_columns access) t c.args.column)
    (c.codes.ensures d ∙ sym (get_or-map (λ (coded : Coded). coded.codes) group i d [] inside)
    ∙ ap (λ h. get_or (codes_in h) i []) (sym (at_place (values_of es) c.args.place group [] c.index.ensures))))
