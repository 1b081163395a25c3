pub mod RightQueries
