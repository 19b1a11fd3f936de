pub mod Pieces
pub mod Expressions
pub mod Rules
pub mod Nested
pub mod Lossless
pub mod Ends
