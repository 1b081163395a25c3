-- What is left of an engine where memory ran out, and the query of session 0 was dropped.
use Rattle.std.proofs.Common.{◌≡◌, ◌∙◌, inl, inr, ap, refl, ℕ, zero, suc, List, Ok, Err}
use Rattle.outside.specs.Seen.{IsLater}
use Rattle.piece_reader.specs.declared.event.Event.TheVariants.{Said, Stepped}
use Rattle.piece_reader.specs.Sayings.{Reading, reading_of}
use Rattle.sql_tokens.specs.declared.token.Token.{Token}
use Rattle.version_store.specs.Desks.{Seen as DeskSeen, without_query_of}
use Rattle.beas_run.specs.Pieces.{IsLeft, LeavesDesk}
use Rattle.beas_library.specs.declared.engine.Engine.{Engine}
use Rattle.beas_library.specs.Engines.{DropsLost, HasLeft}
use Rattle.beas_library.specs.HandedFiles.{Handed, seen_of}

module _ (before middle after : DeskSeen) (m n : ℕ) (dropped : after ≡ without_query_of 0 middle) where
  drops : (reading : Reading) → LeavesDesk reading before middle m n → DropsLost reading before after m n
  drops (Ok (Said zero statement)) left = (dropped ∙ left.0, left.1)
  drops (Ok (Said (suc session) statement)) left = (dropped ∙ ap (without_query_of 0) left.0, left.1)
  drops (Ok (Stepped session)) (inl same) = inl (dropped ∙ ap (without_query_of 0) same.0, same.1)
  drops (Ok (Stepped session)) (inr lost) = inr (dropped ∙ ap (without_query_of 0) lost.0, lost.1)
  drops (Err why) left = (dropped ∙ ap (without_query_of 0) left.0, left.1)

pub left_dropped : (tokens : List Token) (before : Engine) (middle after : DeskSeen) (files : Handed) (m n : ℕ)
    → IsLeft before.desk.settings (reading_of tokens) before.desk middle m n (seen_of before.files) (seen_of files)
    → LeavesDesk (reading_of tokens) before.desk middle m n → IsLater (seen_of before.files) (seen_of files)
    → after ≡ without_query_of 0 middle → HasLeft tokens before (record before { desk = after; files = files }) m n
left_dropped tokens before middle after files m n left leaves later dropped = record {
  left = record {
    no_fewer = left.no_fewer;
    at_most = left.at_most;
    loaded = left.loaded;
    db = ap (λ (d : DeskSeen). d.state.db) dropped ∙ left.db;
  };
  desk = drops before.desk middle after m n dropped (reading_of tokens) leaves;
  held = refl;
  files = later.content;
}
