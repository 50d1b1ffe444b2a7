pub mod lists
pub mod rounds
