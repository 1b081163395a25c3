use Rattle.std.proofs.Common.{◌≡◌, ◌<◌, ◌≤◌, ◌+◌, true, get_or, drop, length, arith, ap, ◌∙◌, subst, sym, List, ℕ}
use Rattle.std.specs.Prelude.{map, slice_range, IsAscii}
use Rattle.std.specs.Char.{to_ascii_lowercase}
use Rattle.std.specs.List.{prefix_len}
use Rattle.std.proofs.lemmas.Result.{IfOk-weaker}
use Rattle.sql_tokens.specs.Cuts.{StandsAt}
use Rattle.beas_core.specs.Spelling.{begins_word, continues_word}
use Rattle.sql_tokens.specs.declared.token.Token.{Token}
use Rattle.sql_tokens.specs.declared.token.TokenKind.TheVariants.{Word}
use Rattle.sql_tokens.proofs.Leads.{stands-word, stands-long_word, word-cut, word-is_ascii, word-run}
use Rattle.sql_tokens.proofs.lexer.word.Goals as goal

-- the run of the bytes is one of the script
run_of :
    (s bytes : List ℕ) (at to : ℕ) → bytes ≡ s → at < length s → begins_word (get_or s at 0) ≡ true →
    to ≡ at + 1 + prefix_len continues_word (drop (at + 1) bytes) → to ≡ at + prefix_len continues_word (drop at s)
run_of s bytes at to e l h r = word-run s at to l h (rw e at r)

pub plain-requires-clause-last : goal.plain-requires-clause-last
plain-requires-clause-last c =
    let s = c.args.source.now in
    let run = run_of s _ c.args.at _ c.as_bytes.ensures.value c.requires.begins.within c.requires.class c.run_end-to.ensures.len in
    word-cut s c.args.at _ c.utf8.source c.requires.begins c.requires.class run

pub returns-then-to-at-gt-LONGEST_WORD : goal.returns-then-to-at-gt-LONGEST_WORD
returns-then-to-at-gt-LONGEST_WORD c =
    let s = c.args.source.now in
    let run = run_of s _ c.args.at _ c.as_bytes.ensures.value c.requires.begins.within c.requires.class c.run_end-to.ensures.len in
    let within : c.run_end-to.result ≤ length s = omega arith in
    IfOk-weaker c.plain.result _ (StandsAt s c.args.at)
    (λ t e. stands-long_word s c.args.at _ t c.utf8.source c.requires.begins c.requires.class run within (omega arith) e) c.plain.ensures

pub range-requires-clause-end_boundary : goal.range-requires-clause-end_boundary
range-requires-clause-end_boundary c =
    let s = c.args.source.now in
    let run = run_of s _ c.args.at _ c.as_bytes.ensures.value c.requires.begins.within c.requires.class c.run_end-to.ensures.len in
    word-cut s c.args.at _ c.utf8.source c.requires.begins c.requires.class run

pub in_small_letters-requires : goal.in_small_letters-requires
in_small_letters-requires c =
    let s = c.args.source.now in
    let to = c.run_end-to.result in
    let run = run_of s _ c.args.at _ c.as_bytes.ensures.value c.requires.begins.within c.requires.class c.run_end-to.ensures.len in
    let within : to ≤ length s = omega arith in
    subst IsAscii (sym c.range.ensures.value) (word-is_ascii s c.args.at to within run)

pub returns : goal.returns
returns c =
    let s = c.args.source.now in
    let to = c.run_end-to.result in
    let run = run_of s _ c.args.at _ c.as_bytes.ensures.value c.requires.begins.within c.requires.class c.run_end-to.ensures.len in
    let within : to ≤ length s = omega arith in
    let folded : c.in_ok-text.text ≡ map to_ascii_lowercase (slice_range s c.args.at to) =
    c.in_ok-text.ensures ∙ ap (map to_ascii_lowercase) c.range.ensures.value in
    let token : List ℕ → Token = λ text. record { kind = Word; from = c.args.at; to = to; text = text } in
    stands-word s c.args.at to c.token.result c.utf8.source c.requires.begins c.requires.class run within (omega arith)
    (c.token.ensures ∙ ap token folded)
