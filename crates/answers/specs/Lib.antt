pub mod Left
pub mod Accepted
pub mod Count
pub mod ShutOut
pub mod OnLine
pub mod Starred
