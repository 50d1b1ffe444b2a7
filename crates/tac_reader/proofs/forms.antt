pub mod VariableForms
