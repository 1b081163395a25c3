-- The tokens of a statement's canonical text spell it.
use Rattle.std.proofs.Common.{◌≡◌, true, sym, subst}
use Rattle.sql_tokens.specs.Tokens.{tokens_of}
use Rattle.sql_text.specs.declared.tree.Statement.{Statement}
use Rattle.sql_text.specs.Canonical.{canonical_text}
use Rattle.sql_text.specs.Grammar.{Spells}
use Rattle.sql_text.specs.Symbols.{symbols}
use Rattle.sql_parser.proofs.StatementIsRead.{one_statement}
use Rattle.beas_laws.specs.Spelled.{IsSpelledByTokens}
use Rattle.beas_laws.proofs.Lexicals.{lexical_from_tokens}
use Rattle.beas_laws.proofs.PrintedStatements.{statement-again}
use Rattle.beas_laws.proofs.Rereading.{read-written}

pub printed_spells : (s : Statement) → IsSpelledByTokens s → Spells (symbols (tokens_of (canonical_text s))) s
printed_spells s h =
    let again = statement-again (symbols h.0) s h.2 (lexical_from_tokens h.0 h.1) in
    subst (λ a. Spells a s) (sym (read-written true again.clean)) again.spelled

pub printed_spells_no_other : (s : Statement) → IsSpelledByTokens s → (other : Statement) → Spells (symbols (tokens_of (canonical_text s))) other → other ≡ s
printed_spells_no_other s h other k = one_statement k (printed_spells s h)
