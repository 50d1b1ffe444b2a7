pub mod ComplementedPlaces
pub mod ComplementedTables
