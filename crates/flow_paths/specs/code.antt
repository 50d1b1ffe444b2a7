-- How the code's own tables stand for the paths of uses, and for what stands around remarks.
pub mod Arounds
pub mod Doubted
pub mod Lined
pub mod UnsetPaths
