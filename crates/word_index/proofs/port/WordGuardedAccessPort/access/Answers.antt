use Rattle.word_index.proofs.port.WordGuardedAccessPort.access.Goals as goal

pub returns-clause-holds : goal.returns-clause-holds
returns-clause-holds c = c.live_access.ensures.holds c.args.self.now.rows c.args.self.now.indexes c.args.self.now.kept
