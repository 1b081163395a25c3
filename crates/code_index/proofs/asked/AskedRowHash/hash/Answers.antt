use Rattle.std.proofs.Common.{◌≡◌, ◌∙◌, ◌++◌, ◌∷◌, [], length, take, ap, sym, subst, arith}
use Rattle.std.specs.List.{fold, flat_map}
use Rattle.std.specs.Hash as fed
use Rattle.std.proofs.lemmas.List.{flat_map_more, length-map, map_more, take_all}
use Rattle.code_index.specs.Reading.{pick, row_code}
use Rattle.code_index.proofs.asked.AskedRowHash.hash.Goals as goal

pub loop-column-preserved : goal.loop-column-preserved
loop-column-preserved g c =
    let columns = c.args.self.now.columns.now in
    let row_codes = c.args.self.now.codes.now in
    let i = c.loop-column.column-index in
    let w = c.row_code.result in
    let front = pick (take i columns) row_codes in
    let step = map_more (row_code row_codes) columns i (record { 0 = 0 }) c.loop-column-test.true ∙ ap (λ x. front ++ x ∷ []) (sym c.row_code.ensures) in
    fed.fed_along g.H.Hasher.write c.write_usize.new.self c.write_u64.new.self
    (flat_map_more fed.u64 [] front w ∙ ap (flat_map fed.u64) (sym step))
    (fed.fed_then g.H.Hasher.write c.write_usize.new.self c.loop-column.state c.write_u64.new.self (flat_map fed.u64 front) (fed.u64 w)
    c.loop-column.invariant c.write_u64.ensures)

pub returns : goal.returns
returns g c =
    let columns = c.args.self.now.columns.now in
    let row_codes = c.args.self.now.codes.now in
    let i = c.loop-column.column-index in
    let fed_codes = subst (λ xs. c.loop-column.state ≡ fold g.H.Hasher.write c.write_usize.new.self (flat_map fed.u64 (pick xs row_codes)))
    (take_all i columns (omega (arith, c.loop-column-test.false))) c.loop-column.invariant in
    let fed_length = subst (λ n. c.write_usize.new.self ≡ fold g.H.Hasher.write c.args.state.now (fed.usize n))
    (sym (length-map columns (row_code row_codes))) c.write_usize.ensures in
    fed.fed_then g.H.Hasher.write c.args.state.now c.write_usize.new.self c.loop-column.state (fed.usize (length (pick columns row_codes)))
    (flat_map fed.u64 (pick columns row_codes)) fed_length fed_codes
