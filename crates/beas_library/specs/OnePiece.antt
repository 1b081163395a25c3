-- The one statement of a text.
--     IsStatementIn text tokens     the text has this statement, and no other
--     IsRefusedFor why text         the cause for which a text has no report stands
use Rattle.std.specs.Prelude.{◌≡◌, ◌<◌, ◌≤◌, ℕ, List, [], ◌∷◌, length}
use Rattle.std.specs.Str.{IsUtf8}
use Rattle.sql_tokens.specs.declared.token.Token.{Token}
use Rattle.beas_run.specs.Readings.{pieces}
use Rattle.beas_run.specs.Runs.{longest_script}
use Rattle.beas_library.specs.declared.pieces.Why.{Why}
use Rattle.beas_library.specs.declared.pieces.Why.TheVariants.{TooLong, NotText, NoStatement, Several, NotAQuery, NoMemory}

pub record IsStatementIn (text : List ℕ) (tokens : List Token) : Type 0 where
  pub short : length text ≤ longest_script
  pub utf8 : IsUtf8 text
  pub one : pieces text ≡ tokens ∷ []

-- of a text that is UTF-8 and not too long
abbrev pub holds : Why → List ℕ → Type 0
holds NoStatement text = pieces text ≡ []
holds Several text = 1 < length (pieces text)
holds NoMemory text = Unit {0}
holds TooLong text = ⊥
holds NotText text = ⊥
holds NotAQuery text = ⊥

abbrev pub IsRefusedFor : Why → List ℕ → Type 0
IsRefusedFor TooLong text = longest_script < length text
IsRefusedFor NotText text = (length text ≤ longest_script) × (IsUtf8 text → ⊥)
IsRefusedFor NoStatement text = (length text ≤ longest_script) × IsUtf8 text × holds NoStatement text
IsRefusedFor Several text = (length text ≤ longest_script) × IsUtf8 text × holds Several text
IsRefusedFor NotAQuery text = ⊥
IsRefusedFor NoMemory text = Unit {0}
