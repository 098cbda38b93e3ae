pub mod KeptLaws
pub mod Committees
mod Examples
