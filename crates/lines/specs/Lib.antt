pub mod Line
pub mod Examples
pub mod LineKinds
pub mod LineTable
pub mod LineTree
pub mod LineDemand
pub mod Writes
