-- What the matches and the errors of a parse say of the arguments.
use Rattle.std.specs.Prelude.{Err, IsErrAnd, Result, ◌↔◌}
use Rattle.std.proofs.Common.{Bool, false, true≢false, ◌≡◌, ◌∙◌, inl, inr, List, [], ◌∷◌, Option, Some, None, option_and_then, option_map, find, ap, ap₂, refl, subst, sym, true}
use Rattle.std.specs.Str.{bytes_eq}
use Rattle.clap.specs.Kinds.{HasKind, Kinds}
use Rattle.clap.specs.Faults.{fault_of, is_simple_and_free}
use Rattle.clap.specs.Simple.{App, is_simple, matches_of}
use Rattle.clap.specs.Facts.{Entry}
use Rattle.clap.specs.Matches.{matched_of}
use Rattle.clap.specs.Values.{kind_of}
use Rattle.clap.specs.Walk.{Row, Text, row_of, rows_of}
use Rattle.clap.specs.declared.error.Error.{Error}
use Rattle.clap.specs.declared.error.kind.ErrorKind.TheVariants.{OutOfMemory}
use Rattle.clap.specs.declared.parser.matches.Found.{Found}
use Rattle.clap.proofs.WalkLemmas.{find_row}
use Rattle.command_line.specs.declared.arguments.Args.{Args}
use Rattle.command_line.specs.declared.arguments.Usage.{Usage}
use Rattle.command_line.specs.declared.arguments.Usage.TheVariants.{NoMemory, Refused}
use Rattle.command_line.specs.Arguments.{args_in, args_of, beas, is_from_arguments, is_given, unless_faulty}

pub beas-simple : is_simple beas ≡ true
unfolding beas
beas-simple = refl

pub beas-simple_and_free : is_simple_and_free beas ≡ true
unfolding beas
beas-simple_and_free = refl

-- the source of a flag, by its row
pub is_given-found : (found : Found) (id : Text) → is_from_arguments (option_and_then (λ a. a.source) (matched_of found id)) ≡ is_given id (rows_of found)
is_given-found found id = ap is_from_arguments (by_entry (find (λ (e : Entry). bytes_eq e.0.now id) found.entries.items)
    ∙ ap (option_and_then (λ (r : Row). r.source)) (sym (find_row found.entries.items id)))
  where
    by_entry : (o : Option Entry) → option_and_then (λ a. a.source) (option_map (λ e. e.1) o) ≡ option_and_then (λ (r : Row). r.source) (option_map row_of o)
    by_entry None = refl
    by_entry (Some e) = refl

-- what a parse of the command gives is what the arguments ask for
pub args_of-parsed : (app : App) (arguments : List Text) (rows : List Row) → app ≡ beas → (is_simple_and_free app ≡ true → fault_of app arguments ≡ [])
    → (is_simple app ≡ true → rows ≡ matches_of app arguments) → args_of arguments ≡ args_in rows
unfolding args_of
args_of-parsed app arguments rows same faultless matched =
    let none = subst (λ (a : App). is_simple_and_free a ≡ true → fault_of a arguments ≡ []) same faultless beas-simple_and_free in
    let found = subst (λ (a : App). is_simple a ≡ true → rows ≡ matches_of a arguments) same matched beas-simple in
    ap₂ unless_faulty none (ap args_in (sym found))

-- a parse that fails, and not because it is out of memory, refuses the arguments
pub args_of-failed : (app : App) (arguments : List Text) (why : Error) → app ≡ beas → (is_simple_and_free app ≡ true → HasKind (fault_of app arguments) why)
    → ¬ (kind_of why ≡ OutOfMemory) → args_of arguments ≡ None
unfolding args_of
args_of-failed app arguments why same has other =
    by_kinds (fault_of beas arguments) (args_in (matches_of beas arguments))
    (subst (λ (a : App). is_simple_and_free a ≡ true → HasKind (fault_of a arguments) why) same has beas-simple_and_free)
  where
    by_kinds : (kinds : Kinds) (asked : Option Args) → HasKind kinds why → unless_faulty kinds asked ≡ None
    by_kinds [] asked (inl memory) = absurd (other memory)
    by_kinds [] asked (inr none) = absurd none
    by_kinds (kind ∷ kinds) asked has = refl

abbrev is_refusal : Usage → Bool
is_refusal Refused = true
is_refusal NoMemory = false

-- what becomes a refusal is not out of memory
pub refused-other : (why : Error) (r : Result Args Usage) → IsErrAnd r (λ e. e ≡ NoMemory ↔ kind_of why ≡ OutOfMemory) → r ≡ Err Refused
    → ¬ (kind_of why ≡ OutOfMemory)
refused-other why r gives refused memory = true≢false (ap is_refusal
    ((subst (λ r. IsErrAnd r (λ e. e ≡ NoMemory ↔ kind_of why ≡ OutOfMemory)) refused gives).1 memory))
