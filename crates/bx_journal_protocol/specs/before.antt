-- What is taken before the first write.
pub mod Again
pub mod Overwritten
pub mod Plan
pub mod Ready
