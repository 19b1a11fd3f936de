mod Glued
mod Starts
pub mod Writes
