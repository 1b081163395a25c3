-- What is read is the one statement that the tokens spell.
use Rattle.std.proofs.Common.{◌≡◌, ◌≤◌, Bool, true, false, List, [], ◌∷◌, Option, Some, None, Result, Ok, Err, refl, sym, ap, subst, ◌∙◌}
use Rattle.std.specs.Prelude.{if◌then◌else◌, nat_lt, IfOk, IsErrOf}
use Rattle.std.proofs.lemmas.List.{append-nil}
use Rattle.std.proofs.lemmas.Bool.{false≢true, ltb-false, ltb-true, le-ltb, lt-ltb}
use Rattle.sql_text.specs.declared.tree.Statement.{Statement}
use Rattle.sql_text.specs.Trees.{Tree}
use Rattle.beas_core.specs.declared.errors.Fail.{Fail}
use Rattle.beas_core.specs.declared.errors.Fail.TheVariants.{Refused, NoMemory}
use Rattle.beas_core.specs.declared.refusal.Refusal.{Refusal}
use Rattle.beas_core.specs.declared.refusal.Refusal.TheVariants as refusal
use Rattle.sql_text.specs.Symbols.{Symbol, depth}
use Rattle.sql_text.specs.Grammar.{Spells, create_table, create_access, drop_access, load, insert, delete, discover_group, discover_pairs, grouped, over_query, IsOverQuery, select, explain, scan_ok, specialise, SpellsLone, lone, wants_distinct}
use Rattle.beas_core.specs.Results.{Gives}
use Rattle.sql_parser.specs.Reading.{read_statement}
use Rattle.sql_parser.specs.Outcome.{Reading, Parses, SpellsNothing, lacks_distinct, with_distinct, to_the_end, found_reading}
use Rattle.sql_parser.proofs.ReadIsSpelled.{some_is}
use Rattle.sql_parser.proofs.StatementIsSpelled.{SpellsAny, whole, lacking, statement-spelled}
use Rattle.sql_parser.proofs.StatementIsRead.{spelled-reads, over-reads}

any-spelled : (tokens : List Symbol) (s : Statement) → read_statement tokens ≡ Some (s, []) → SpellsAny tokens s
any-spelled tokens s e =
    let t = statement-spelled tokens s [] e in
    subst (λ a. SpellsAny a s) (sym (append-nil t.front) ∙ sym t.parts) t.spelled

over-lacks : {a : List Symbol} {t : Tree} {s : Statement} → IsOverQuery a t s → lacks_distinct s ≡ wants_distinct t
over-lacks (select q) = refl
over-lacks (explain q) = refl
over-lacks (scan_ok q) = refl
over-lacks (specialise b) = refl

spells-no_lack : {a : List Symbol} {s : Statement} → Spells a s → lacks_distinct s ≡ false
spells-no_lack (create_table i h) = refl
spells-no_lack (create_access i j k f) = refl
spells-no_lack (drop_access i) = refl
spells-no_lack (load i) = refl
spells-no_lack (insert i h) = refl
spells-no_lack (delete i w) = refl
spells-no_lack (discover_group i k f) = refl
spells-no_lack (discover_pairs i) = refl
spells-no_lack (grouped i k h) = refl
spells-no_lack (over_query o e) = over-lacks o ∙ e

any-whole : {a : List Symbol} {s : Statement} → SpellsAny a s → lacks_distinct s ≡ false → Spells a s
any-whole (whole h) e = h
any-whole (lacking o l) e = absurd (false≢true (sym e ∙ over-lacks o ∙ l))

any-lone : {a : List Symbol} {s : Statement} → SpellsAny a s → lacks_distinct s ≡ true → SpellsLone a
any-lone (whole h) e = absurd (false≢true (sym (spells-no_lack h) ∙ e))
any-lone (lacking o l) e = lone o l

-- ---- from what is read

pub whole_is_spelled : (tokens : List Symbol) (s : Statement) → read_statement tokens ≡ Some (s, []) → lacks_distinct s ≡ false → Spells tokens s
whole_is_spelled tokens s e l = any-whole (any-spelled tokens s e) l

pub lone_is_spelled : (tokens : List Symbol) (s : Statement) → read_statement tokens ≡ Some (s, []) → lacks_distinct s ≡ true → SpellsLone tokens
lone_is_spelled tokens s e l = any-lone (any-spelled tokens s e) l

lone-lacks : (tokens : List Symbol) → SpellsLone tokens → (s : Statement) × (read_statement tokens ≡ Some (s, [])) × (lacks_distinct s ≡ true)
lone-lacks tokens (lone {s = s} o l) = (s, over-reads o, over-lacks o ∙ l)

pub nothing_is_spelled : (tokens : List Symbol) → ((s : Statement) → read_statement tokens ≡ Some (s, []) → ⊥) → SpellsNothing tokens
nothing_is_spelled tokens h = record { no_statement = λ s k. h s (spelled-reads k); no_lone = λ k. let l = lone-lacks tokens k in h l.0 l.1 }

-- ---- from what is spelled

statement-is : (s t : Statement) (rest : List Symbol) (tokens : List Symbol) → read_statement tokens ≡ Some (s, []) → read_statement tokens ≡ Some (t, rest)
    → s ≡ t
statement-is s t rest tokens e f = ap (λ (p : Statement × List Symbol). p.0) (some_is (s, []) (t, rest) (sym e ∙ f))

pub read_is : (tokens : List Symbol) (s t : Statement) → read_statement tokens ≡ Some (s, []) → Spells tokens t → (s ≡ t) × (lacks_distinct s ≡ false)
read_is tokens s t e h =
    let k = statement-is s t [] tokens e (spelled-reads h) in
    (k, ap lacks_distinct k ∙ spells-no_lack h)

pub read_lacks : (tokens : List Symbol) (s : Statement) → read_statement tokens ≡ Some (s, []) → SpellsLone tokens → lacks_distinct s ≡ true
read_lacks tokens s e h =
    let l = lone-lacks tokens h in
    ap lacks_distinct (statement-is s l.0 [] tokens e l.1) ∙ l.2

pub read_none : (tokens : List Symbol) → ((s : Statement) → read_statement tokens ≡ Some (s, []) → ⊥)
    → ((t : Statement) → Spells tokens t → ⊥) × (SpellsLone tokens → ⊥)
read_none tokens h = let n = nothing_is_spelled tokens h in (n.no_statement, n.no_lone)

pub read_some : (tokens : List Symbol) (s : Statement) → read_statement tokens ≡ Some (s, []) → SpellsNothing tokens → ⊥
read_some tokens s e n =
    let go : (b : Bool) → lacks_distinct s ≡ b → ⊥ = λ b. elim b as (λ b. lacks_distinct s ≡ b → ⊥) [
      | true ↦ λ l. n.no_lone (lone_is_spelled tokens s e l)
      | false ↦ λ l. n.no_statement s (whole_is_spelled tokens s e l)
    ] in
    go (lacks_distinct s) refl

-- ---- the reading of all tokens

fair-parsed : (tokens : List Symbol) → nat_lt 32 (depth tokens) ≡ false → found_reading tokens ≡ to_the_end (read_statement tokens)
unfolding found_reading
fair-parsed tokens d = rw d refl

pub deep-parsed : (tokens : List Symbol) → nat_lt 32 (depth tokens) ≡ true → found_reading tokens ≡ Err refusal.TooDeep
unfolding found_reading
deep-parsed tokens d = rw d refl

end-none : (read : Option (Statement × List Symbol)) → ((s : Statement) → read ≡ Some (s, []) → ⊥) → to_the_end read ≡ Err refusal.Syntax
end-none None h = refl
end-none (Some (s, [])) h = absurd (h s refl)
end-none (Some (s, symbol ∷ rest)) h = refl

pub syntax-parsed : (tokens : List Symbol) → nat_lt 32 (depth tokens) ≡ false → ((s : Statement) → read_statement tokens ≡ Some (s, []) → ⊥)
    → found_reading tokens ≡ Err refusal.Syntax
syntax-parsed tokens d h = fair-parsed tokens d ∙ end-none (read_statement tokens) h

end-parsed : (tokens : List Symbol) (s : Statement) → nat_lt 32 (depth tokens) ≡ false → read_statement tokens ≡ Some (s, []) → found_reading tokens
    ≡ with_distinct s
end-parsed tokens s d e = fair-parsed tokens d ∙ ap to_the_end e

lone-parsed : (tokens : List Symbol) (s : Statement) → nat_lt 32 (depth tokens) ≡ false → read_statement tokens ≡ Some (s, []) → lacks_distinct s ≡ true
    → found_reading tokens ≡ Err refusal.NeedsDistinct
lone-parsed tokens s d e l = end-parsed tokens s d e ∙ (rw l refl)

whole-parsed : (tokens : List Symbol) (s : Statement) → nat_lt 32 (depth tokens) ≡ false → read_statement tokens ≡ Some (s, []) → lacks_distinct s ≡ false
    → found_reading tokens ≡ Ok s
whole-parsed tokens s d e l = end-parsed tokens s d e ∙ (rw l refl)

-- what is answered of a statement
pub answer-parsed : (tokens : List Symbol) (s : Statement) (b : Bool) → nat_lt 32 (depth tokens) ≡ false → read_statement tokens ≡ Some (s, [])
    → b ≡ lacks_distinct s → (answer : Result Statement Fail) → answer ≡ (if b then Err (Refused refusal.NeedsDistinct) else Ok s)
    → Gives answer (found_reading tokens)
answer-parsed tokens s true d e l answer h = rw h (lone-parsed tokens s d e (sym l))
answer-parsed tokens s false d e l answer h = rw h (whole-parsed tokens s d e (sym l))

-- ---- it is a reading by the grammar

lone-or-whole : (tokens : List Symbol) (s : Statement) (b : Bool) → depth tokens ≤ 32 → read_statement tokens ≡ Some (s, []) → lacks_distinct s ≡ b
    → Parses tokens (with_distinct s)
lone-or-whole tokens s true d e l = rw l ((d, lone_is_spelled tokens s e l))
lone-or-whole tokens s false d e l = rw l ((d, whole_is_spelled tokens s e l))

end-parses : (tokens : List Symbol) (read : Option (Statement × List Symbol)) → depth tokens ≤ 32 → read_statement tokens ≡ read
    → Parses tokens (to_the_end read)
end-parses tokens None d e = (d, nothing_is_spelled tokens (λ s f. let g : None ≡ Some (s, []) = sym e ∙ f in cc))
end-parses tokens (Some (s, [])) d e = lone-or-whole tokens s (lacks_distinct s) d e refl
end-parses tokens (Some (s, symbol ∷ rest)) d e = (
  d,
  nothing_is_spelled tokens
      (λ t f. let g : symbol ∷ rest ≡ [] = ap (λ (p : Statement × List Symbol). p.1) (some_is (s, symbol ∷ rest) (t, []) (sym e ∙ f)) in cc),
)

parsed-as : (tokens : List Symbol) (b : Bool) → nat_lt 32 (depth tokens) ≡ b → Parses tokens (found_reading tokens)
parsed-as tokens true d = subst (Parses tokens) (sym (deep-parsed tokens d)) (ltb-true 32 (depth tokens) d)
parsed-as tokens false d = subst (Parses tokens) (sym (fair-parsed tokens d)) (end-parses tokens (read_statement tokens) (ltb-false 32 (depth tokens) d) refl)

pub parsed-parses : (tokens : List Symbol) → Parses tokens (found_reading tokens)
parsed-parses tokens = parsed-as tokens (nat_lt 32 (depth tokens)) refl

-- ---- and there is no other

pub one_reading : (tokens : List Symbol) (reading : Reading) → Parses tokens reading → found_reading tokens ≡ reading
one_reading tokens (Ok s) h =
    whole-parsed tokens s (le-ltb 32 (depth tokens) h.0) (spelled-reads h.1) (spells-no_lack h.1)
one_reading tokens (Err refusal.TooDeep) h = deep-parsed tokens (lt-ltb 32 (depth tokens) h)
one_reading tokens (Err refusal.Syntax) h = syntax-parsed tokens (le-ltb 32 (depth tokens) h.0) (λ s e. read_some tokens s e h.1)
one_reading tokens (Err refusal.NeedsDistinct) h = let l = lone-lacks tokens h.1 in lone-parsed tokens l.0 (le-ltb 32 (depth tokens) h.0) l.1 l.2
one_reading tokens (Err _) h = absurd h

-- ---- what an answer tells, where it is the reading

pub told_answer : {A : Type 0} (Reads : Result A Refusal → Type 0) (found : Result A Refusal) → Reads found → (answer : Result A Fail) → Gives answer found
    → IfOk answer (λ s. Reads (Ok s))
told_answer Reads found h (Ok s) e = subst Reads e h
told_answer Reads found h (Err why) e = tt

pub told_refusal : {A : Type 0} (Reads : Result A Refusal → Type 0) (found : Result A Refusal) → Reads found → (answer : Result A Fail) → Gives answer found
    → (why : Refusal) → IsErrOf answer (Refused why) → Reads (Err why)
told_refusal Reads found h (Ok s) e why is = cc
told_refusal Reads found h (Err NoMemory) e why is = cc
told_refusal Reads found h (Err (Refused w)) e why is = let same : w ≡ why = cc in subst Reads (e ∙ ap (λ (r : Refusal). Err r) same) h

pub spelled : (tokens : List Symbol) (answer : Result Statement Fail) → Gives answer (found_reading tokens) → IfOk answer (λ s. Parses tokens (Ok s))
spelled tokens = told_answer (Parses tokens) (found_reading tokens) (parsed-parses tokens)

pub refused : (tokens : List Symbol) (answer : Result Statement Fail) → Gives answer (found_reading tokens) → (why : Refusal) → IsErrOf answer (Refused why)
    → Parses tokens (Err why)
refused tokens = told_refusal (Parses tokens) (found_reading tokens) (parsed-parses tokens)

pub answered : (tokens : List Symbol) (answer : Result Statement Fail) → Gives answer (found_reading tokens) → (reading : Reading) → Parses tokens reading
    → Gives answer reading
answered tokens answer e reading h = subst (Gives answer) (one_reading tokens reading h) e
