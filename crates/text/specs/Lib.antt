pub mod Copy
pub mod Line
pub mod Part
pub mod Written
