pub mod BlockFacts
