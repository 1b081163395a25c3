-- What never fails has no fault.
use Rattle.std.proofs.Common.{◌≡◌, ℕ, All, List, Option, Some, None, arith, inl, inr, refl}
use Rattle.std.specs.Prelude.{IsSomeAnd}
use Rattle.command_line.specs.declared.arguments.Args.{Args}
use Rattle.command_line.specs.declared.arguments.Args.TheVariants.{Script, Demo}
use Rattle.outside.specs.Counts.{Rose, RoseBy}
use Rattle.outside.specs.Seen.{Seen}
use Rattle.session.specs.Effects.{Settings}
use Rattle.session.specs.Ties.{failures}
use Rattle.session.specs.Turns.{loads_of}
use Rattle.piece_reader.specs.Sayings.{Reading}
use Rattle.desk_model.specs.Pieces.{seen_turns, turns}
use Rattle.beas_laws.specs.Unreadable.{NamesNone}
use Rattle.beas_laws.proofs.FailureFacts.{none_named}
use Rattle.beas_laws.proofs.TurnFacts.{script_tells}
use Rattle.beas_run.specs.Readings.{Readings, pieces}
use Rattle.beas_run.specs.Runs.{Ended, Standing, WalkedFor, outcomes_in, script_name}
use Rattle.beas_run.specs.Walks.{Moment}

pub none_rose : Rose 0 0 → ⊥
none_rose h = omega arith

pub no_fault : (named : Option (List ℕ)) → IsSomeAnd named (λ n. Rose 0 0) → ⊥
no_fault None h = h
no_fault (Some n) h = none_rose h

-- over files and an output whose counts stand at 0, no run ends with a fault
pub never_unread : (arguments : List (List ℕ)) (status : ℕ) (script : List ℕ) (begun : Seen) (before after : Standing)
    → Ended arguments status script begun before after
    → (IsSomeAnd (script_name arguments) (λ name. Rose (before.moment.files.faults name) (after.moment.files.faults name)) → ⊥) → status ≡ 3 → ⊥
never_unread arguments status script begun before after (inl (below, _)) quiet three = omega arith
never_unread arguments status script begun before after (inr (inl (two, _))) quiet three = omega arith
never_unread arguments status script begun before after (inr (inr (inl (_, unread)))) quiet three = quiet unread.fault
never_unread arguments status script begun before after (inr (inr (inr (inl (four, _))))) quiet three = omega arith
never_unread arguments status script begun before after (inr (inr (inr (inr (inl (five, _)))))) quiet three = omega arith
never_unread arguments status script begun before after (inr (inr (inr (inr (inr (inl (six, _))))))) quiet three = omega arith
never_unread arguments status script begun before after (inr (inr (inr (inr (inr (inr (seven, _))))))) quiet three = omega arith

pub never_failed : (arguments : List (List ℕ)) (status : ℕ) (script : List ℕ) (begun : Seen) (before after : Standing)
    → Ended arguments status script begun before after
    → (Rose before.moment.out.faults after.moment.out.faults → ⊥) → status ≡ 4 → ⊥
never_failed arguments status script begun before after (inl (below, _)) quiet four = omega arith
never_failed arguments status script begun before after (inr (inl (two, _))) quiet four = omega arith
never_failed arguments status script begun before after (inr (inr (inl (three, _)))) quiet four = omega arith
never_failed arguments status script begun before after (inr (inr (inr (inl (_, failed))))) quiet four = quiet failed.fault
never_failed arguments status script begun before after (inr (inr (inr (inr (inl (five, _)))))) quiet four = omega arith
never_failed arguments status script begun before after (inr (inr (inr (inr (inr (inl (six, _))))))) quiet four = omega arith
never_failed arguments status script begun before after (inr (inr (inr (inr (inr (inr (seven, _))))))) quiet four = omega arith

none_rose_by : (n before now : ℕ) → now ≡ 0 → RoseBy n before now → n ≡ 0
none_rose_by n before now zero h = omega arith

-- whatever is asked for, no load of a name failed whose count of faults stands at 0
pub walked_failures : (asked : Option Args) (s : Settings) (readings : List Reading) (status : ℕ) (before after : Moment)
    (walked : WalkedFor asked s readings status before after) (name : List ℕ) → after.files.faults name ≡ 0
    → failures name (loads_of (seen_turns (turns s before.state readings (outcomes_in asked s readings status before after walked)))) ≡ 0
walked_failures None s readings status before after walked name zero =
    none_rose_by _ _ _ zero (walked.follows.tied.failed name)
walked_failures (Some (Script path budget explain)) s readings status before after walked name zero =
    none_rose_by _ _ _ zero (walked.follows.tied.failed name)
walked_failures (Some (Demo seed budget explain)) s readings status before after walked name zero =
    none_rose_by _ _ _ refl (walked.walked.follows.tied.failed name)

-- so of its script's turns none names a file as unreadable
pub walked_readable : (asked : Option Args) (s : Settings) (script : List ℕ) (readings : List Reading) (status : ℕ) (before after : Moment)
    (walked : WalkedFor asked s readings status before after) → Readings script readings
    → ((name : List ℕ) → after.files.faults name ≡ 0)
    → All NamesNone (seen_turns (turns s before.state readings (outcomes_in asked s readings status before after walked)))
walked_readable asked s script readings status before after walked read zero =
    let outcomes = outcomes_in asked s readings status before after walked in
    none_named (seen_turns (turns s before.state readings outcomes)) (script_tells s before.state (pieces script) readings outcomes read)
    (λ name. walked_failures asked s readings status before after walked name (zero name))
