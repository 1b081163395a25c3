use Rattle.std.proofs.Common.{◌≡◌, ◌<◌, ◌∙◌, ap, subst, refl, sym, ℕ, Bool, List, Ok, Err, true, false, length, [], ◌∷◌, arith}
use Rattle.std.proofs.lemmas.Bool.{false≢true}
use Rattle.std.proofs.lemmas.Result.{err_from_is_err_and}
use Rattle.std.proofs.lemmas.Str.{IsCharBoundary-start}
use Rattle.report.specs.declared.reports.Report.{Report}
use Rattle.sql_tokens.specs.declared.token.Token.{Token}
use Rattle.sql_tokens.specs.Pieces.{statements_of, tokens_past}
use Rattle.session.specs.Effects.{Settings}
use Rattle.beas_run.specs.Endings.{status_of}
use Rattle.piece_reader.specs.Sayings.{Reading, reading_of}
use Rattle.beas_run.specs.Pieces.{Scene}
use Rattle.beas_run.specs.Readings.{readings_of, readings_past}
use Rattle.beas_run.specs.Walks.{Moment}
use Rattle.beas_run.proofs.ReachedFacts.{status_for}
use Rattle.beas_run.proofs.ReadingFacts.{past_end, past_none, past_one}
use Rattle.beas_run.proofs.TieFacts.{later_twice, same_later, sink_later, sink_later_twice}
use Rattle.beas_run.proofs.WalkFacts.{Walking, begun_walk, walk_ended, walk_more, walk_stopped, walk_uncut}
use Rattle.beas_run.proofs.script.carry_out_all.Goals as goal

-- the same walk, with what is left said in another way
left_as : (took : List Report → Type 0) (s : Settings) (all rest other : List Reading) (place : ℕ) (refused : Bool) (before : Moment) (now : Scene)
    → rest ≡ other → Walking took s all rest place refused before now → Walking took s all other place refused before now
left_as took s all rest other place refused before now e walking =
    let P : List Reading → Type 0 = λ left. Walking took s all left place refused before now in
    subst P e walking

whole_status_is : (refused : Bool) → status_of (Ok refused) ≡ status_for refused
whole_status_is true = refl
whole_status_is false = refl

-- the next piece, and those after it
at_piece : (took : List Report → Type 0) (s : Settings) (script : List ℕ) (at next : ℕ) (tokens piece : List Token) (place : ℕ) (refused : Bool)
    (before : Moment) (now : Scene)
    → statements_of (tokens_past at script) ≡ tokens ∷ statements_of (tokens_past next script) → piece ≡ tokens
    → Walking took s (readings_of script) (readings_past at script) place refused before now
    → Walking took s (readings_of script) (reading_of piece ∷ readings_past next script) place refused before now
at_piece took s script at next tokens piece place refused before now one same walking =
    left_as took s (readings_of script) (readings_past at script) (reading_of piece ∷ readings_past next script) place refused before now
    (past_one script at next tokens one ∙ ap (λ (ts : List Token). reading_of ts ∷ readings_past next script) (sym same)) walking

holds_some : (tokens : List Token) (none : Bool) → none ≡ false → (tokens ≡ [] → none ≡ true) → 0 < length tokens
holds_some [] none is told = absurd (false≢true (sym is ∙ told refl))
holds_some (token ∷ tokens) none is told = omega arith

pub pieces-init : goal.pieces-init
pieces-init g c = record {
  walking = begun_walk _ _ _ _ c.requires.idle.0 c.requires.idle.1 c.requires.none;
  within = omega arith;
  cut = IsCharBoundary-start c.args.script.now c.utf8.script;
  counted = omega arith;
  settings = refl;
  files = same_later _;
  out = sink_later _;
  faults = refl;
  unused = λ _. refl;
}

pub returns-in_err-at-clause-walked : goal.returns-in_err-at-clause-walked
returns-in_err-at-clause-walked g c =
    let exit = err_from_is_err_and _ c.from_residual.ensures.1 in
    walk_uncut _ _ _ _ _ _ _ _ _ c.pieces.invariant.walking (exit.1 ∙ ap Err exit.2)

pub pieces-preserved-then-is_empty : goal.pieces-preserved-then-is_empty
pieces-preserved-then-is_empty g c =
    let script = c.args.script.now in
    let i = c.pieces.invariant in
    let piece = c.in_ok-at.ensures.piece in
    let below : c.pieces.at < length script = omega arith in
    let none : c.lex_piece.new.tokens ≡ [] = c.is_empty.ensures.0 c.if-is_empty.true in
    record {
      walking = left_as _ _ _ _ _ _ _ _ _ (past_none script c.pieces.at c.in_ok-at.at (c.in_ok-at.ensures.none none)) i.walking;
      within = piece.within;
      cut = piece.cut;
      counted = omega (arith, i.counted, piece.more below);
      settings = i.settings;
      files = i.files;
      out = i.out;
      faults = i.faults;
      unused = i.unused;
    }

pub returns-in_err-refused-clause-walked : goal.returns-in_err-refused-clause-walked
returns-in_err-refused-clause-walked g c =
    let e = c.in_err-refused.ensures in
    let i = c.pieces.invariant in
    let exit = err_from_is_err_and _ c.from_residual-in_err-refused.ensures.1 in
    let some = holds_some c.lex_piece.new.tokens c.is_empty.result c.if-is_empty.false c.is_empty.ensures.1 in
    walk_stopped _ _ _ _ _ _ _ _ _ _ _ _ _ c.in_err-refused.field-0.0
    (at_piece _ _ c.args.script.now c.pieces.at c.in_ok-at.at c.lex_piece.new.tokens c.as_slice-piece.result.now _ _ _ _ (c.in_ok-at.ensures.some some)
    c.as_slice-piece.ensures i.walking)
    i.settings (exit.1 ∙ ap Err exit.2) e.stopped e.files

pub pieces-preserved : goal.pieces-preserved
pieces-preserved g c =
    let script = c.args.script.now in
    let e = c.in_ok-refused.ensures in
    let i = c.pieces.invariant in
    let piece = c.in_ok-at.ensures.piece in
    let below : c.pieces.at < length script = omega arith in
    let some = holds_some c.lex_piece.new.tokens c.is_empty.result c.if-is_empty.false c.is_empty.ensures.1 in
    record {
      walking =
          walk_more _ _ _ _ _ _ _ _ _ _ _ _ _
          (at_piece _ _ script c.pieces.at c.in_ok-at.at c.lex_piece.new.tokens c.as_slice-piece.result.now _ _ _ _ (c.in_ok-at.ensures.some some)
          c.as_slice-piece.ensures i.walking)
          i.settings e.reported e.files e.out.later.told;
      within = piece.within;
      cut = piece.cut;
      counted = omega (arith, i.counted, piece.more below);
      settings = e.settings ∙ i.settings;
      files = later_twice _ _ _ i.files e.files;
      out = sink_later_twice _ _ _ i.out e.out.later;
      faults = e.out.no_fault ∙ i.faults;
      unused = λ none. e.unused none ∙ i.unused none;
    }

pub returns-clause-walked : goal.returns-clause-walked
returns-clause-walked g c =
    let script = c.args.script.now in
    walk_ended _ _ _ _ _ _ _ _ (left_as _ _ _ _ _ _ _ _ _ (past_end script c.pieces.at (omega arith)) c.pieces.invariant.walking)
    (whole_status_is c.pieces.refused)
