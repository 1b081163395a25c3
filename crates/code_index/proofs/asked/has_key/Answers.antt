use Rattle.std.proofs.Common.{◌≡◌, ◌≢◌, ◌∙◌, ℕ, Bool, List, true, false, length, get_or, ap, sym, refl, arith}
use Rattle.std.specs.Prelude.{nat_eq}
use Rattle.std.specs.Cmp.Lexicographic.{pointwise, bytes_decides}
use Rattle.std.proofs.lemmas.List.{length-map, get_or-map, take_more_same, take_all}
use Rattle.code_index.specs.Reading.{pick, row_code}
use Rattle.code_index.proofs.asked.has_key.Goals as goal

unlike : (xs ys : List ℕ) → xs ≢ ys → false ≡ pointwise nat_eq xs ys
unlike xs ys n = by (pointwise nat_eq xs ys) (λ e. n ((bytes_decides xs ys).0 e))
  where
    by : (b : Bool) → (b ≡ true → ⊥) → false ≡ b
    by true h = absurd (h refl)
    by false h = refl

pub returns-then-columns-key : goal.returns-then-columns-key
returns-then-columns-key c =
    let columns = c.args.columns.now in
    let row_codes = c.args.row_codes.now in
    let key = c.args.key.now in
    unlike (pick columns row_codes) key (λ e. c.if-columns-key.true (sym (length-map columns (row_code row_codes)) ∙ ap length e))

pub returns-then-row_code-key : goal.returns-then-row_code-key
returns-then-row_code-key c =
    let columns = c.args.columns.now in
    let row_codes = c.args.row_codes.now in
    let key = c.args.key.now in
    let i = c.loop-i.i in
    let w = c.row_code.ensures ∙ sym (get_or-map (row_code row_codes) columns i (record { 0 = 0 }) 0 c.loop-i-test.true) in
    unlike (pick columns row_codes) key (λ e. c.if-row_code-key.true (w ∙ ap (λ t. get_or t i 0) e))

pub loop-i-preserved : goal.loop-i-preserved
loop-i-preserved c =
    let columns = c.args.columns.now in
    let row_codes = c.args.row_codes.now in
    let i = c.loop-i.i in
    let w = c.row_code.ensures ∙ sym (get_or-map (row_code row_codes) columns i (record { 0 = 0 }) 0 c.loop-i-test.true) in
    take_more_same (pick columns row_codes) c.args.key.now i 0 (omega (arith, c.loop-i-test.true, length-map columns (row_code row_codes)))
    (omega (arith, c.loop-i-test.true, c.if-columns-key.false)) c.loop-i.invariant (sym w ∙ c.if-row_code-key.false)

pub returns : goal.returns
returns c =
    let columns = c.args.columns.now in
    let row_codes = c.args.row_codes.now in
    let key = c.args.key.now in
    let own = pick columns row_codes in
    let long = length-map columns (row_code row_codes) in
    let end : c.loop-i.i ≡ length columns = omega (arith, c.loop-i-test.false, c.loop-i.auto.i-end) in
    let same = sym (take_all c.loop-i.i own (omega (arith, end, long))) ∙ c.loop-i.invariant
    ∙ take_all c.loop-i.i key (omega (arith, end, c.if-columns-key.false)) in
    sym ((bytes_decides own key).1 same)
