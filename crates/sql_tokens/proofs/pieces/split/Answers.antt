use Rattle.std.proofs.Common.{◌≡◌, ◌≤◌, ◌<◌, ◌+◌, ◌++◌, ◌∷◌, [], List, length, map, drop, sym, ap, subst, ◌∙◌, append_assoc, arith}
use Rattle.std.specs.Prelude.{All, slice_range}
use Rattle.std.specs.List.{slice_split, position_or_len}
use Rattle.sql_tokens.specs.declared.token.Token.{Token}
use Rattle.sql_tokens.specs.declared.token.Piece.{Piece}
use Rattle.sql_tokens.specs.Pieces.{is_semicolon, places, without_empty, pieces_of, statements_of}
use Rattle.sql_tokens.proofs.Parts.{places-more, places-last, parts_of, pieces-within}
use Rattle.sql_tokens.proofs.pieces.split.Goals as goal

last :
    (all : List Token) (pieces added : List Piece) (from to : _) → from ≤ length all →
    to ≡ from + position_or_len is_semicolon (drop from all) → to ≡ length all →
    pieces ++ without_empty (places from (slice_split is_semicolon (drop from all))) ≡ pieces_of all →
    added ≡ pieces ++ without_empty (record { from = from; to = to } ∷ []) → added ≡ pieces_of all
last all pieces added from to l r e known a =
    a ∙ ap (λ (ps : List Piece). pieces ++ ps) (sym (places-last all from to l r e)) ∙ known

more :
    (all : List Token) (pieces added : List Piece) (from to : _) →
    to ≡ from + position_or_len is_semicolon (drop from all) → to < length all →
    pieces ++ without_empty (places from (slice_split is_semicolon (drop from all))) ≡ pieces_of all →
    added ≡ pieces ++ without_empty (record { from = from; to = to } ∷ []) →
    added ++ without_empty (places (to + 1) (slice_split is_semicolon (drop (to + 1) all))) ≡ pieces_of all
more all pieces added from to r l known a =
    let after = without_empty (places (to + 1) (slice_split is_semicolon (drop (to + 1) all))) in
    ap (λ (ps : List Piece). ps ++ after) a ∙ append_assoc pieces (without_empty (record { from = from; to = to } ∷ [])) after
    ∙ ap (λ (ps : List Piece). pieces ++ ps) (sym (places-more all from to r l)) ∙ known

pub returns-then-to-all-clause-pieces : goal.returns-then-to-all-clause-pieces
returns-then-to-all-clause-pieces c =
    rw c.as_slice-all.ensures at
    (last c.as_slice-all.result.now c.loop-pieces.pieces c.add_piece.new.pieces c.loop-pieces.from c.piece_end-to.result
    c.loop-pieces.invariant.within c.piece_end-to.ensures.len c.if-to-all.true c.loop-pieces.invariant.known c.in_ok-add_piece.ensures)

pub returns-then-to-all-clause-parts : goal.returns-then-to-all-clause-parts
returns-then-to-all-clause-parts c =
    let all = c.args.tokens.now in
    let known : c.add_piece.new.pieces ≡ pieces_of all = returns-then-to-all-clause-pieces c in
    subst (λ (ps : List Piece). map (λ p. slice_range all p.from p.to) ps ≡ statements_of all) (sym known) (parts_of all)

pub returns-then-to-all-clause-within : goal.returns-then-to-all-clause-within
returns-then-to-all-clause-within c =
    let all = c.args.tokens.now in
    let known : c.add_piece.new.pieces ≡ pieces_of all = returns-then-to-all-clause-pieces c in
    subst (λ (ps : List Piece). All (λ p. (p.from < p.to) × (p.to ≤ length all)) ps) (sym known) (pieces-within all)

pub loop-pieces-preserved : goal.loop-pieces-preserved
loop-pieces-preserved c = record {
  within = omega arith;
  known = more c.as_slice-all.result.now c.loop-pieces.pieces c.add_piece.new.pieces c.loop-pieces.from c.piece_end-to.result
      c.piece_end-to.ensures.len (omega arith) c.loop-pieces.invariant.known c.in_ok-add_piece.ensures;
}
