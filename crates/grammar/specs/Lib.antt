pub mod Looked
pub mod Loops
pub mod Cuts
pub mod Idle
