pub mod ExampleTests
pub mod Pieces
pub mod Quotients
