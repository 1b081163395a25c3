-- Which run the arguments after the program's name ask for.
--     beas                  the command, over clap's own words for a simple command
--     args_of arguments     the run, or None where the arguments are refused
--     usage_line            the line that says how the arguments are to be written
use Rattle.std.specs.Prelude.{◌-◌, ◌^◌, ℕ, Bool, true, false, List, [], ◌∷◌, codes, find, Option, Some, None, option_and_then, option_map}
use Rattle.std.specs.Str.{bytes_eq}
use Rattle.beas_core.specs.Spelling.{number_within}
use Rattle.clap.specs.declared.builder.action.ArgAction.TheVariants.{SetTrue}
use Rattle.clap.specs.Faults.{fault_of}
use Rattle.clap.specs.Kinds.{Kinds}
use Rattle.clap.specs.Simple.{App, matches_of, new_app, new_rule, on_top, with_rule}
use Rattle.clap.specs.Walk.{Row, Rule, Text, first_of}
use Rattle.clap.specs.declared.parser.matches.ValueSource.{ValueSource}
use Rattle.clap.specs.declared.parser.matches.ValueSource.TheVariants.{CommandLine, DefaultValue}
use Rattle.command_line.specs.declared.arguments.Args.{Args}
use Rattle.command_line.specs.declared.arguments.Args.TheVariants.{Script, Demo}

-- an argument that stands alone
abbrev pub script_rule : Rule
script_rule = new_rule (codes "SCRIPT")

-- an option with one value
abbrev pub option_rule : Text → Rule
option_rule name = record (new_rule name) { long = Some name }

-- a flag without a value
abbrev pub flag_rule : Text → Rule
flag_rule name = record (new_rule name) { long = Some name; action = Some SetTrue }

abbrev pub nameless : App → App
nameless app = on_top (λ s. record s { no_binary_name = true }) app

unfoldable pub beas : App
beas = with_rule (with_rule (with_rule (with_rule (nameless (new_app (codes "beas")))
    script_rule) (option_rule (codes "budget"))) (option_rule (codes "demo"))) (flag_rule (codes "explain"))

-- the number that an option is given, if it is given one: None where its value is no number up to the greatest
abbrev pub number_given : ℕ → Option Text → Option (Option ℕ)
number_given greatest None = Some None
number_given greatest (Some text) = option_map (λ n. Some n) (number_within 0 greatest text)

abbrev pub is_from_arguments : Option ValueSource → Bool
is_from_arguments None = false
is_from_arguments (Some DefaultValue) = false
is_from_arguments (Some CommandLine) = true

-- whether a flag is among the arguments, and its value no default
abbrev pub is_given : Text → List Row → Bool
is_given id rows = is_from_arguments (option_and_then (λ r. r.source) (find (λ r. bytes_eq r.id id) rows))

-- a script or a demonstration is asked for, and not both
abbrev pub run_asked : Option Text → Option Text → Option ℕ → Bool → Option Args
run_asked (Some path) None budget explain = Some (Script path budget explain)
run_asked None (Some digits) budget explain =
    option_map (λ seed. Demo seed budget explain) (number_within 0 (2 ^ 32 - 1) digits)
run_asked None None budget explain = None
run_asked (Some path) (Some digits) budget explain = None

-- what the matches of the command ask for
abbrev pub args_in : List Row → Option Args
args_in rows = option_and_then
    (λ budget. run_asked (first_of (codes "SCRIPT") rows) (first_of (codes "demo") rows) budget (is_given (codes "explain") rows))
    (number_given (2 ^ 64 - 1) (first_of (codes "budget") rows))

-- what is asked for, where clap finds no fault. A request for help is a fault.
abbrev pub unless_faulty : Kinds → Option Args → Option Args
unless_faulty [] asked = asked
unless_faulty (fault ∷ faults) asked = None

unfoldable pub args_of : List Text → Option Args
args_of arguments = unless_faulty (fault_of beas arguments) (args_in (matches_of beas arguments))

-- how the arguments are to be written
abbrev pub usage_line : List ℕ
usage_line = codes "usage: beas SCRIPT [--budget N] [--explain] or beas --demo SEED [--budget N] [--explain]\n"
