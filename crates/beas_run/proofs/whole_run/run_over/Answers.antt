use Rattle.std.proofs.Common.{refl}
use Rattle.beas_run.proofs.TieFacts.{same_later}
use Rattle.beas_run.proofs.SourceFacts.{made_names_none, names_a_file, settings_for_same, way_for}
use Rattle.beas_run.proofs.whole_run.run_over.Goals as goal

pub write_totals-requires-clause-plain : goal.write_totals-requires-clause-plain
write_totals-requires-clause-plain g c = made_names_none _ _ _ _ _ c.in-Demo.is c.requires.made

pub returns-in-Script : goal.returns-in-Script
returns-in-Script g c =
    let run = c.write_reports.ensures in
    record {
      ran = record {
        statuses = run.statuses;
        walked = way_for c.args.args.now _ _ _ _ _ _ c.in-Script.is run.walked;
        settings_are = settings_for_same c.args.args.now _ _ _ c.in-Script.is run.settings;
        no_fault = run.no_fault;
        fault = run.fault;
        out = run.out;
        files = run.files;
      };
      unused = λ none. absurd (names_a_file c.args.args.now _ _ _ c.in-Script.is none);
    }

pub returns-in-Demo : goal.returns-in-Demo
returns-in-Demo g c =
    let run = c.write_totals.ensures in
    record {
      ran = record {
        statuses = run.statuses;
        walked = way_for c.args.args.now _ _ _ _ _ _ c.in-Demo.is (run.demonstrated _);
        settings_are = settings_for_same c.args.args.now _ _ _ c.in-Demo.is run.settings;
        no_fault = run.no_fault;
        fault = run.fault;
        out = run.out;
        files = same_later _;
      };
      unused = λ _. refl;
    }
