-- The store that a session keeps, in the terms of its database. It is named here alone.
--     Store
--     database_in store      the database that it stands for
use Rattle.catalogue.specs.Database.{Database}
use Rattle.word_index.specs.declared.guarded.WordGuarded.{WordGuarded}
use Rattle.word_index.specs.Stored.{database_in as database_of}

abbrev pub Store : Type 0
Store = WordGuarded

abbrev pub database_in : Store → Database
database_in store = database_of store
