pub mod Template
pub mod Decimal
