use Rattle.std.proofs.Common.{◌≡◌, ap, sym}
use Rattle.std.specs.Prelude.{nat_eq, Some, None}
use Rattle.std.specs.Map.{lookup}
use Rattle.std.specs.Cmp.Lexicographic.{pointwise}
use borrow.Author.Tests.{ltb-true}
use Rattle.std.proofs.lemmas.Bool.{lt-ltb}
use Rattle.code_index.specs.Reading.{read_index, pick}
use Rattle.code_index.proofs.Holding.{holds_iff}
use Rattle.code_index.proofs.Steps.{found_tells, new_tells}
use Rattle.code_index.proofs.keyed.KeyedIndex.would_hold.Goals as goal

pub returns-in-None-clause-exactly : goal.returns-in-None-clause-exactly
returns-in-None-clause-exactly g c codes row o s =
    let access = c.self.inside.access in
    let es = c.self.inside.groups.entries in
    let row_codes = c.args.words.now in
    let key = pick c.as_slice.result.now c.args.words.now in
    let none : lookup (pointwise nat_eq key) es ≡ None = sym c.in-None.ensures.value in
    let key_is = ap (λ cs. pick cs row_codes) c.as_slice.ensures in
    new_tells access codes c.self.inside.total es row_codes c.args.self.now c.self.view_is o key key_is none _
    (ltb-true 0 access.bound, lt-ltb 0 access.bound) row s

pub returns-in-None-clause-holds : goal.returns-in-None-clause-holds
returns-in-None-clause-holds g c codes row rows o s is h =
    holds_iff (read_index codes c.args.self.now) row _ (returns-in-None-clause-exactly g c codes row o s) rows is h

pub returns-in-Some-clause-exactly : goal.returns-in-Some-clause-exactly
returns-in-Some-clause-exactly g c codes row o s =
    let access = c.self.inside.access in
    let es = c.self.inside.groups.entries in
    let row_codes = c.args.words.now in
    let key = pick c.as_slice.result.now c.args.words.now in
    let g0 = c.in-Some.group.now in
    let found : lookup (pointwise nat_eq key) es ≡ Some g0 = sym c.in-Some.ensures.value in
    let key_is = ap (λ cs. pick cs row_codes) c.as_slice.ensures in
    found_tells access codes c.self.inside.total es row_codes c.args.self.now c.self.view_is o key key_is g0 found _ c.has_room.ensures row s

pub returns-in-Some-clause-holds : goal.returns-in-Some-clause-holds
returns-in-Some-clause-holds g c codes row rows o s is h =
    holds_iff (read_index codes c.args.self.now) row _ (returns-in-Some-clause-exactly g c codes row o s) rows is h
