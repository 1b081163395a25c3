use Rattle.std.proofs.Common.{string_bytes, Some}
use Rattle.std.proofs.lemmas.Map.Text.{hash_map_updates_text}
use Rattle.catalogue.proofs.names.NameMap.put.Goals as goal

pub returns : goal.returns
returns c q =
    hash_map_updates_text (string_bytes c.args.name) c.args.self.now.numbers c.insert.new.self (Some c.args.number) c.in-Ok.ensures.updates q
