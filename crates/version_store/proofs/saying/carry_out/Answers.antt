use Rattle.std.proofs.Common.{◌∙◌, Err, refl, arith}
use Rattle.std.proofs.lemmas.Result.{err_from_is_err_and}
use Rattle.session.specs.Applying.{database_of, settings_of}
use Rattle.session.specs.Effects.{action_of}
use Rattle.session.proofs.AppliedFacts.{later_same}
use Rattle.version_store.proofs.SayingFacts.{kept_after, none_loaded, statement_leaves}
use Rattle.version_store.proofs.TakenFacts.{applied_taken}
use Rattle.version_store.proofs.saying.carry_out.Goals as goal

pub keep_changed-requires : goal.keep_changed-requires
keep_changed-requires g c = record { kept = c.requires.kept.open_queries }

-- ---- out of memory before

pub returns-in_err-keep_changed-clause-kept : goal.returns-in_err-keep_changed-clause-kept
returns-in_err-keep_changed-clause-kept g c =
    let db = database_of c.args.session.now in
    kept_after db db c.args.queries.now.items c.keep_changed.new.queries.items c.requires.kept c.requires.kept.sound c.keep_changed.ensures.kept
    c.keep_changed.ensures.held c.keep_changed.ensures.cursors

pub returns-in_err-keep_changed-clause-taken : goal.returns-in_err-keep_changed-clause-taken
returns-in_err-keep_changed-clause-taken g c k idle =
    let s = c.args.session.now in
    let db = database_of s in
    let queries = c.args.queries.now.items in
    let left = c.keep_changed.new.queries.items in
    let st = c.args.statement.now in
    let n = c.args.steps.now in
    let x = g.F.Files.seen c.args.files.now in
    let e = c.keep_changed.ensures in
    let p = err_from_is_err_and c.from_residual.result c.from_residual.ensures.1 in
    rw (p.1)
    (applied_taken s s queries left k st c.requires.other idle c.requires.kept
    (kept_after db db queries left c.requires.kept c.requires.kept.sound e.kept e.held e.cursors)
    e.held e.cursors (Err _) n n x x tt tt refl refl (λ outcome. omega arith) (omega arith)
    (none_loaded (action_of (settings_of s) db st) x) (later_same x))

pub returns-in_err-keep_changed-clause-unread : goal.returns-in_err-keep_changed-clause-unread
returns-in_err-keep_changed-clause-unread g c = λ effect is. refl

-- ---- the statement

pub apply-requires : goal.apply-requires
apply-requires g c = c.requires.well_formed

pub returns-clause-kept : goal.returns-clause-kept
returns-clause-kept g c =
    let s = c.args.session.now in
    let queries = c.keep_changed.new.queries.items in
    let new = database_of c.apply.new.self in
    let left = statement_leaves (settings_of s) (database_of s) c.args.statement.now c.requires.well_formed c.requires.kept.sound queries
    c.keep_changed.ensures.kept c.in_ok-keep_changed.ensures.frozen new s.limits.file c.args.steps.now c.apply.new.steps
    (g.F.Files.seen c.args.files.now) (g.F.Files.seen c.apply.new.files) c.apply.result c.apply.ensures.applied c.apply.ensures.unchanged in
    kept_after (database_of s) new c.args.queries.now.items queries c.requires.kept left.sound_after left.still_open
    (left.held ∙ c.keep_changed.ensures.held) c.keep_changed.ensures.cursors

pub returns-clause-taken : goal.returns-clause-taken
returns-clause-taken g c k idle =
    let s = c.args.session.now in
    let queries = c.keep_changed.new.queries.items in
    let new = database_of c.apply.new.self in
    let n = c.args.steps.now in
    let m = c.apply.new.steps in
    let x = g.F.Files.seen c.args.files.now in
    let y = g.F.Files.seen c.apply.new.files in
    let kept = c.keep_changed.ensures in
    let e = c.apply.ensures in
    let left = statement_leaves (settings_of s) (database_of s) c.args.statement.now c.requires.well_formed c.requires.kept.sound queries
    kept.kept c.in_ok-keep_changed.ensures.frozen new s.limits.file n m x y c.apply.result e.applied e.unchanged in
    applied_taken s c.apply.new.self c.args.queries.now.items queries k c.args.statement.now c.requires.other idle c.requires.kept
    (kept_after (database_of s) new c.args.queries.now.items queries c.requires.kept left.sound_after left.still_open
    (left.held ∙ kept.held) kept.cursors)
    (left.held ∙ kept.held) kept.cursors c.apply.result n m x y e.applied e.within e.settings e.unchanged e.at_most e.no_fewer e.loaded e.later

pub returns-clause-unread : goal.returns-clause-unread
returns-clause-unread g c = c.apply.ensures.unread
