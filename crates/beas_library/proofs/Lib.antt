mod LeftFacts
mod RefusalFacts
mod ScriptFacts
