pub mod FiniteSearch
