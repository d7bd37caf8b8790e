pub mod Texts
mod Records
