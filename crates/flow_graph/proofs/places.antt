pub mod PlaceTables
pub mod PointLemmas
pub mod Standing
pub mod Walking
