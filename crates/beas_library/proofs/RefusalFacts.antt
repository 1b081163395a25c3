-- Where the wording of a refusal stands in the line that reports it.
use Rattle.std.proofs.Common.{◌≡◌, ◌<◌, ◌+◌, ◌-◌, ◌++◌, ◌∙◌, ap, subst, sym, ℕ, List, length, arith, take, drop}
use Rattle.std.specs.Prelude.{codes, decimal, slice_range}
use Rattle.std.proofs.lemmas.List.{append_assoc, length-append}
use Rattle.std.proofs.Math.Seq.{drop-append_seam, take-append_seam}
use Rattle.beas_core.specs.declared.refusal.Refusal.{Refusal}
use Rattle.beas_core.specs.Refusals.{number_of}
use Rattle.report.specs.declared.reports.Report.{Report}
use Rattle.report.specs.declared.reports.Report.TheVariants.{Refused}
use Rattle.report.specs.Reports.{report_text}
use Rattle.report.specs.Texts.{refusal_text}
use Rattle.beas_library.specs.Refusals.{IsRefusalOf, IsTextOf}

-- what stands before the wording in the report of statement k
abbrev pub front : ℕ → ℕ → List ℕ
front k number = decimal k ++ (codes " refused " ++ (decimal number ++ codes " "))

line_is : (k : ℕ) (why : Refusal) → report_text k (Refused why) ≡ front k (number_of why) ++ (refusal_text why ++ codes "\n")
unfolding report_text
line_is k why =
    let last = refusal_text why ++ codes "\n" in
    ap (λ l. decimal k ++ (codes " refused " ++ l)) (sym (append_assoc (decimal (number_of why)) (codes " ") last))
    ∙ sym (append_assoc (decimal k) (codes " refused " ++ (decimal (number_of why) ++ codes " ")) last)

module _ (before wording : List ℕ) where
  abbrev whole : List ℕ
  whole = before ++ (wording ++ codes "\n")

  count : length whole ≡ length before + (length wording + 1)
  count = length-append before (wording ++ codes "\n") ∙ ap (λ n. length before + n) (length-append wording (codes "\n"))

  long : length before < length whole
  long = let c = count in omega (arith, c)

  middle : slice_range whole (length before) (length whole - 1) ≡ wording
  middle =
      let c = count in
      let n : length whole - 1 - length before ≡ length wording = omega (arith, c) in
      ap (λ k. take k (drop (length before) whole)) n ∙ ap (take (length wording)) (drop-append_seam before (wording ++ codes "\n"))
      ∙ take-append_seam wording (codes "\n")

module _ (k number : ℕ) (report : Report) (before line : List ℕ) (refusal : IsRefusalOf number report) (before_is : before ≡ front k number)
    (line_here : line ≡ report_text k report) where
  line_whole : line ≡ whole before (refusal_text refusal.why)
  line_whole =
      line_here ∙ ap (report_text k) refusal.is ∙ line_is k refusal.why
      ∙ ap (λ n. front k n ++ (refusal_text refusal.why ++ codes "\n")) (sym refusal.number_is)
      ∙ ap (λ b. b ++ (refusal_text refusal.why ++ codes "\n")) (sym before_is)

  pub has_wording : length before < length line
  has_wording = subst (λ l. length before < length l) (sym line_whole) (long before (refusal_text refusal.why))

  pub wording_there : (wording : List ℕ) → wording ≡ slice_range line (length before) (length line - 1) → IsTextOf wording report
  wording_there wording are = record {
    why = refusal.why;
    is = refusal.is;
    wording_is = are ∙ ap (λ l. slice_range l (length before) (length l - 1)) line_whole ∙ middle before (refusal_text refusal.why);
  }
