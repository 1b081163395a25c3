use Rattle.std.proofs.Common.{◌≡◌, ◌+◌, ◌++◌, map, take}
use Rattle.std.specs.Prelude.{vec_len, vec_capacity}
use Rattle.beas_core.specs.Coverage.{place_class}
use Rattle.plan_ops.specs.Places.{column_of}
use Rattle.plan_ops.proofs.places.push_columns_at.Given as goal

abbrev pub invariant-loop-place : goal.invariant-loop-place
invariant-loop-place l = record {
  items : l.found.items ≡ l.initial.found.items ++ map (λ p. column_of l.classes (place_class l.block p)) (take l.place-index l.places);
  len : vec_len l.found ≡ vec_len l.initial.found + l.place-index;
  room : vec_capacity l.found ≡ vec_capacity l.initial.found;
}
