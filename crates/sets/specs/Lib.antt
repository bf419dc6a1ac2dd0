pub mod Sets
pub mod Lent
pub mod LaidOut
pub mod Answer
