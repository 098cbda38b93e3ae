pub mod Decimal
pub mod Stake
pub mod Examples
