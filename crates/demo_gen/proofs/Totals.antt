-- The line of the totals, piece by piece.
use Rattle.std.proofs.Common.{◌≡◌, ◌∙◌, ◌++◌, ℕ, List, ap, append_assoc, codes, refl}
use Rattle.std.specs.Fmt.{decimal}
use Rattle.demo_gen.specs.Summaries.{Totals, summary_text}

pieces : (a b c d e f g h i j k : List ℕ)
    → (((((((((a ++ b) ++ c) ++ d) ++ e) ++ f) ++ g) ++ h) ++ i) ++ j) ++ k
    ≡ a ++ (b ++ (c ++ (d ++ (e ++ (f ++ (g ++ (h ++ (i ++ (j ++ k)))))))))
pieces a b c d e f g h i j k = simp append_assoc refl

pub totals_line : (view totals : Totals) (t0 t1 t2 t3 t4 t5 t6 t7 t8 t9 t10 n1 n2 n3 n4 n5 : List ℕ) → view ≡ totals
    → n1 ≡ decimal view.statements → n2 ≡ decimal view.refused → n3 ≡ decimal view.rows → n4 ≡ decimal view.reads → n5 ≡ decimal view.bound
    → t0 ≡ codes "statements " → t1 ≡ t0 ++ n1 → t2 ≡ t1 ++ codes " refused " → t3 ≡ t2 ++ n2 → t4 ≡ t3 ++ codes " rows " → t5 ≡ t4 ++ n3
    → t6 ≡ t5 ++ codes " reads " → t7 ≡ t6 ++ n4 → t8 ≡ t7 ++ codes " greatest bound " → t9 ≡ t8 ++ n5 → t10 ≡ t9 ++ codes "\n" → t10 ≡ summary_text totals
unfolding summary_text
totals_line view totals t0 t1 t2 t3 t4 t5 t6 t7 t8 t9 t10 n1 n2 n3 n4 n5 seen f1 f2 f3 f4 f5 e0 e1 e2 e3 e4 e5 e6 e7 e8 e9 e10 =
    let made : t10 ≡ summary_text view =
    rw (e10, e9, e8, e7, e6, e5, e4, e3, e2, e1, e0, f1, f2, f3, f4, f5)
    (pieces (codes "statements ") (decimal view.statements) (codes " refused ") (decimal view.refused) (codes " rows ") (decimal view.rows)
    (codes " reads ") (decimal view.reads) (codes " greatest bound ") (decimal view.bound) (codes "\n")) in
    made ∙ ap (λ (t : Totals). summary_text t) seen
