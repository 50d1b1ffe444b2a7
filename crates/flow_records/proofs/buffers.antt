pub mod JoinedNames
