use Rattle.std.proofs.Common.{None}
use Rattle.std.proofs.lemmas.Map.Text.{hash_map_updates_text}
use Rattle.catalogue.proofs.names.NameMap.remove.Goals as goal

pub returns : goal.returns
returns c q = rw (← c.as_str.ensures) (hash_map_updates_text c.as_str.result.now c.args.self.now.numbers c.swap_remove.new.self None
    c.swap_remove.ensures.updates q)
