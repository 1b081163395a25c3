-- A text that grows lexeme by lexeme.
use Rattle.std.specs.Prelude.{ℕ, ◌||◌, Bool, List, [], ◌∷◌, ◌++◌}
use Rattle.sql_text.specs.Canonical.{Lexeme, spelling, holds_left, holds_right, gap}

-- the text so far, and whether no space stands before what comes next
pub record Written : Type 0 where
  pub text : List ℕ
  pub held : Bool

abbrev pub put : Written → Lexeme → Written
put so_far lexeme = record { text = so_far.text ++ gap (so_far.held || holds_left lexeme) ++ spelling lexeme; held = holds_right lexeme }

unfoldable pub put_all : Written → List Lexeme → Written
put_all so_far [] = so_far
put_all so_far (lexeme ∷ rest) = put_all (put so_far lexeme) rest
