pub mod Bins
