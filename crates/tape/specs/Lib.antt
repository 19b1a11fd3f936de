pub mod Numbers
pub mod Ready
pub mod View
pub mod Places
pub mod Rows
pub mod Steps
pub mod Counted
