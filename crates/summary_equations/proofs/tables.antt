pub mod ProgramTables
