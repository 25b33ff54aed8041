pub mod Texts
pub mod Fading
