pub mod Promise
pub mod Rounds
pub mod Steps
pub mod Callers
