-- The parts of a report, one after another, are its lines.
use Rattle.std.proofs.Common.{◌≡◌, ◌∙◌, ◌++◌, ◌∷◌, List, ℕ, [], refl, ap, sym, subst, length, append_assoc, suc, ◌+◌, ◌<◌, drop, get_or, arith}
use Rattle.std.specs.List.{flat_map}
use Rattle.std.proofs.Math.Seq.{drop-cons}
use Rattle.std.specs.Prelude.{map}
use Rattle.aggregate.specs.declared.cell.Cell.{Cell}
use Rattle.beas_core.specs.declared.value.Value.{Value}
use Rattle.report.specs.declared.reports.Report.TheVariants.{Answered, Grouped}
use Rattle.report.specs.Reports.{bound_text, cell_text, counts_text, field_text, records_text, report_text}

-- the fields of names are the names
pub names_as_fields : (names : List (List ℕ)) → map (λ name. name) names ≡ names
names_as_fields [] = refl
names_as_fields (name ∷ names) = ap (λ rest. name ∷ rest) (names_as_fields names)

-- so the parts of an answer, one after another, are its lines
pub answered_whole : (k bound reads : ℕ) (plan : List ℕ) (names header : List (List ℕ)) (found rows : List (List Value)) → names ≡ header → found ≡ rows
    → (bound_text k bound plan ++ records_text field_text (map (λ name. name) names) found) ++ counts_text k (length found) reads
    ≡ report_text k (Answered bound plan header rows reads)
unfolding report_text
answered_whole k bound reads plan names header found rows n r =
    rw (n, r, names_as_fields header) (append_assoc (bound_text k bound plan) (records_text field_text header rows) (counts_text k (length rows) reads))

pub grouped_whole : (k bound reads : ℕ) (plan : List ℕ) (names header : List (List ℕ)) (found rows : List (List Cell)) → names ≡ header → found ≡ rows
    → (bound_text k bound plan ++ records_text cell_text (map (λ name. name) names) found) ++ counts_text k (length found) reads
    ≡ report_text k (Grouped bound plan header rows reads)
unfolding report_text
grouped_whole k bound reads plan names header found rows n r =
    rw (n, r, names_as_fields header) (append_assoc (bound_text k bound plan) (records_text cell_text header rows) (counts_text k (length rows) reads))

-- what is written and then the lines of the items left is the whole, one item further on
pub lines_next : {X : Type 0} (f : X → List ℕ) (all xs : List X) (i : ℕ) (x : X) (text line new whole : List ℕ) → xs ≡ all → i < length xs
    → x ≡ get_or xs i x → line ≡ f x → new ≡ text ++ line → text ++ flat_map f (drop i all) ≡ whole → new ++ flat_map f (drop (i + 1) all) ≡ whole
lines_next f all xs i x text line new whole same below is told added so =
    let next : i + 1 ≡ suc i = omega arith in
    let item : x ≡ get_or all i x = is ∙ ap (λ ys. get_or ys i x) same in
    let left : flat_map f (drop i all) ≡ f (get_or all i x) ++ flat_map f (drop (suc i) all) =
    ap (flat_map f) (drop-cons all i x (subst (λ ys. i < length ys) same below)) in
    ap (λ n. new ++ flat_map f (drop n all)) next
    ∙ ap (λ t. t ++ flat_map f (drop (suc i) all)) added
    ∙ append_assoc text line (flat_map f (drop (suc i) all))
    ∙ ap (λ l. text ++ (l ++ flat_map f (drop (suc i) all))) (told ∙ ap f item)
    ∙ ap (λ r. text ++ r) (sym left) ∙ so
