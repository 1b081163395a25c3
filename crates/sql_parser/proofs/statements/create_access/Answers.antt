use Rattle.std.proofs.lemmas.Result.{err_from_is_err_and}
use Rattle.sql_parser.specs.Reading.{read_access_names, read_access_shape, read_create_access}
use Rattle.sql_parser.proofs.InParts.{access-without_names, access-without_shape, access-found}
use Rattle.sql_parser.proofs.Loops.{fails_on}
use Rattle.sql_parser.proofs.statements.create_access.Goals as goal

pub returns-in_err-name : goal.returns-in_err-name
returns-in_err-name c =
    let p = err_from_is_err_and c.from_residual.result c.from_residual.ensures.1 in
    let tokens = c.args.reader.now in
    rw (p.1, p.2) (fails_on c.in_err-name.field-0.0 c.access_names.new.reader c.access_names.new.reader (read_access_names tokens)
    (read_create_access tokens) c.in_err-name.ensures (access-without_names tokens))

pub returns-in_err-key : goal.returns-in_err-key
returns-in_err-key c =
    let p = err_from_is_err_and c.from_residual-in_err-key.result c.from_residual-in_err-key.ensures.1 in
    let tokens = c.args.reader.now in
    rw (p.1, p.2) (fails_on c.in_err-key.field-0.0 c.access_shape.new.reader c.access_shape.new.reader (read_access_shape c.access_names.new.reader)
    (read_create_access tokens) c.in_err-key.ensures
    (access-without_shape tokens c.access_names.new.reader (c.in_ok-name.name, c.in_ok-name.table) c.in_ok-name.ensures))

pub returns : goal.returns
returns c =
    access-found c.args.reader.now c.access_names.new.reader (c.in_ok-name.name, c.in_ok-name.table) c.in_ok-name.ensures
    ((c.in_ok-key.key, c.in_ok-key.fetched), c.in_ok-key.limit) c.access_shape.new.reader c.in_ok-key.ensures
