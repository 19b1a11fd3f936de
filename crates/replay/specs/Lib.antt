pub mod Case
pub mod Wanted
pub mod Input
