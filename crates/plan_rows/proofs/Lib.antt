pub mod Wishes
pub mod Judging
pub mod Walk
