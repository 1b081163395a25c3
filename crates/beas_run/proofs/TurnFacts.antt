-- The turns of a script, one more at a time.
use Rattle.std.proofs.Common.{◌≡◌, ◌+◌, ◌++◌, ◌||◌, ◌∙◌, ap, refl, sym, ℕ, List, [], ◌∷◌, Option, None, Some, length, length-append, arith, append-nil}
use Rattle.std.specs.List.{enumerate_from, flat_map}
use Rattle.std.specs.Option.{option_map_or}
use Rattle.std.proofs.lemmas.Grind.{flat_map-append}
use Rattle.std.proofs.lemmas.List.{length-map, map-append}
use Rattle.std.proofs.lemmas.List.Elements.{filter_map-append}
use Rattle.std.proofs.lemmas.List.Folds.{list_any-append}
use Rattle.std.proofs.lemmas.List.Sums.{sum_by-append, fold-append}
use Rattle.outside.specs.Counts.{raised}
use Rattle.outside.proofs.Counts.{raised_twice}
use Rattle.report.specs.Reports.{report_text}
use Rattle.session.specs.declared.loading.LoadOutcome.{LoadOutcome}
use Rattle.session.specs.Effects.{Settings}
use Rattle.session.specs.Turns.{Turn, is_refusal, out_of, cost_of, any_refused, loads_of}
use Rattle.desk_model.specs.Desks.{DeskAction, AtOnce, ByLoad, State}
use Rattle.desk_model.specs.Pieces.{DeskTurn, next, piece_action, seen_turn, seen_turns, turns}
use Rattle.piece_reader.specs.Sayings.{Reading}
use Rattle.beas_run.specs.States.{state_after}

-- ---- what is read off a list of turns, and one more

enumerate_from-append : {X : Type 0} (n : ℕ) (xs ys : List X) → enumerate_from n (xs ++ ys) ≡ enumerate_from n xs ++ enumerate_from (n + length xs) ys
enumerate_from-append n [] ys = let e : n ≡ n + 0 = omega arith in ap (λ m. enumerate_from m ys) e
enumerate_from-append n (x ∷ xs) ys =
    let at : n + 1 + length xs ≡ n + length (x ∷ xs) = omega arith in
    ap (λ l. (n, x) ∷ l) (enumerate_from-append (n + 1) xs ys ∙ ap (λ m. enumerate_from (n + 1) xs ++ enumerate_from m ys) at)

-- the texts of the reports where the first has this number
abbrev pub text_from : ℕ → List Turn → List ℕ
text_from k ts = flat_map (λ t. report_text t.0 t.1.effect.report) (enumerate_from k ts)

text_from-append : (k : ℕ) (done left : List Turn) → text_from k (done ++ left) ≡ text_from k done ++ text_from (k + length done) left
text_from-append k done left =
    let f : ℕ × Turn → List ℕ = λ t. report_text t.0 t.1.effect.report in
    ap (flat_map f) (enumerate_from-append k done left) ∙ flat_map-append f (enumerate_from k done) (enumerate_from (k + length done) left)

seen-append : (done left : List DeskTurn) → seen_turns (done ++ left) ≡ seen_turns done ++ seen_turns left
seen-append done left = map-append seen_turn done left

abbrev pub out_from : ℕ → List DeskTurn → List ℕ
out_from k ts = text_from k (seen_turns ts)

pub out-append : (done left : List DeskTurn) → out_of (seen_turns (done ++ left)) ≡ out_of (seen_turns done) ++ out_from (length done + 1) left
out-append done left =
    let at : 1 + length (seen_turns done) ≡ length done + 1 = omega (arith, length-map done seen_turn) in
    ap out_of (seen-append done left) ∙ text_from-append 1 (seen_turns done) (seen_turns left)
    ∙ ap (λ k. out_of (seen_turns done) ++ out_from k left) at

pub out-more : (done : List DeskTurn) (t : DeskTurn)
    → out_of (seen_turns (done ++ t ∷ [])) ≡ out_of (seen_turns done) ++ report_text (length done + 1) t.effect.report
out-more done t =
    out-append done (t ∷ []) ∙ ap (λ text. out_of (seen_turns done) ++ text) (append-nil (report_text (length done + 1) t.effect.report))

pub cost-append : (done left : List DeskTurn) → cost_of (seen_turns (done ++ left)) ≡ cost_of (seen_turns done) + cost_of (seen_turns left)
cost-append done left = ap cost_of (seen-append done left) ∙ sum_by-append (λ (t : Turn). t.effect.cost) (seen_turns done) (seen_turns left)

pub refused-append : (done left : List DeskTurn)
    → any_refused (seen_turns (done ++ left)) ≡ (any_refused (seen_turns done) || any_refused (seen_turns left))
refused-append done left =
    ap any_refused (seen-append done left) ∙ list_any-append (λ (t : Turn). is_refusal t.effect.report) (seen_turns done) (seen_turns left)

pub state-append : (state : State) (done left : List DeskTurn) → state_after state (done ++ left) ≡ state_after (state_after state done) left
state-append state done left = fold-append (λ (before : State) (t : DeskTurn). t.effect.state) state done left

pub loads-append : (done left : List DeskTurn) → loads_of (seen_turns (done ++ left)) ≡ loads_of (seen_turns done) ++ loads_of (seen_turns left)
loads-append done left = ap loads_of (seen-append done left) ∙ filter_map-append (λ (t : Turn). t.load) (seen_turns done) (seen_turns left)

-- ---- counts of calls

pub length_loads-append : (done left : List DeskTurn)
    → length (loads_of (seen_turns (done ++ left))) ≡ length (loads_of (seen_turns done)) + length (loads_of (seen_turns left))
length_loads-append done left = ap length (loads-append done left) ∙ length-append (loads_of (seen_turns done)) (loads_of (seen_turns left))

pub loads_more : (done : List DeskTurn) (t : DeskTurn) (before now after : ℕ) → now ≡ raised (length (loads_of (seen_turns done))) before
    → after ≡ raised (length (loads_of (seen_turns (t ∷ [])))) now → after ≡ raised (length (loads_of (seen_turns (done ++ t ∷ [])))) before
loads_more done t before now after first more =
    more ∙ ap (raised (length (loads_of (seen_turns (t ∷ []))))) first
    ∙ raised_twice (length (loads_of (seen_turns done))) (length (loads_of (seen_turns (t ∷ [])))) before
    ∙ ap (λ n. raised n before) (sym (length_loads-append done (t ∷ [])))

pub puts_more : (count before now after : ℕ) → now ≡ raised count before → after ≡ raised 1 now → after ≡ raised (count + 1) before
puts_more count before now after first more = more ∙ ap (raised 1) first ∙ raised_twice count 1 before

-- ---- the turn that comes, and those after it

pub turns_next : (s : Settings) (state : State) (reading : Reading) (rest : List Reading) (outcomes later : List LoadOutcome) (turn : DeskTurn)
    → next (piece_action s state reading) (outcomes ++ later) ≡ Some (record { turn = turn; left = later })
    → turns s state (reading ∷ rest) (outcomes ++ later) ≡ turn ∷ turns s turn.effect.state rest later
turns_next s state reading rest outcomes later turn comes =
    ap (λ n. option_map_or (λ n. n.turn ∷ turns s n.turn.effect.state rest n.left) n []) comes

-- ---- no outcome is left

no_loads_in : (s : Settings) (rest : List Reading) (none : (state : State) → loads_of (seen_turns (turns s state rest [])) ≡ []) (action : Option DeskAction)
    → loads_of (seen_turns (option_map_or (λ n. n.turn ∷ turns s n.turn.effect.state rest n.left) (next action []) [])) ≡ []
no_loads_in s rest none None = refl
no_loads_in s rest none (Some (AtOnce effect)) = none effect.state
no_loads_in s rest none (Some (ByLoad name effect)) = refl

-- then no turn has a load
pub no_loads : (s : Settings) (readings : List Reading) (state : State) → loads_of (seen_turns (turns s state readings [])) ≡ []
no_loads s [] state = refl
no_loads s (reading ∷ rest) state = no_loads_in s rest (no_loads s rest) (piece_action s state reading)
