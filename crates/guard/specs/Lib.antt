pub mod Tree
pub mod Names
