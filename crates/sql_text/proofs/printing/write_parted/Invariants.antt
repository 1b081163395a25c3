use Rattle.std.proofs.Common.{◌≡◌, ◌∷◌, drop}
use Rattle.std.specs.List.{flat_map}
use Rattle.sql_text.specs.Between.{lexeme_between}
use Rattle.sql_text.specs.Writing.{put_all}
use Rattle.sql_text.proofs.printing.write_parted.Given as goal

abbrev pub invariant-loop-part : goal.invariant-loop-part
invariant-loop-part g l =
    put_all l.writer (flat_map (λ y. lexeme_between l.between ∷ g.T.Part.lexemes y) (drop l.part-index l.rest))
    ≡ put_all l.initial.writer (flat_map (λ y. lexeme_between l.between ∷ g.T.Part.lexemes y) l.rest)
