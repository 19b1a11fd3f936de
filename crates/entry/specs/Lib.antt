pub mod Promise
pub mod Numbered
pub mod Round
pub mod Input
pub mod Table
pub mod Whole
