pub mod Grouping
pub mod LineSizes
pub mod LineRun
pub mod LineSpell
pub mod LineSim
pub mod LineEntry
pub mod LineTheorem
pub mod LineKnown
