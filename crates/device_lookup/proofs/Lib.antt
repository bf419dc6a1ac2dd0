pub mod Members
pub mod Devices
pub mod Chains
