mod BlockFacts
mod Members
