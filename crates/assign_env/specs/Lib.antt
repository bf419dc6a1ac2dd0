pub mod Env
