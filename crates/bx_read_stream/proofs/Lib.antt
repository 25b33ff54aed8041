pub mod BlocksLemmas
pub mod ImageLemmas
pub mod LayingLemmas
pub mod DumpLemmas
pub mod PlainLemmas
