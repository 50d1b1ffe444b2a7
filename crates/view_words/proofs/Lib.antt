pub mod matches
