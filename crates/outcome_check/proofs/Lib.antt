pub mod Runs
pub mod HeadTexts
pub mod Parts
pub mod Heads
pub mod Answers
