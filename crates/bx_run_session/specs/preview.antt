-- What differs, and what a change would make differ.
pub mod Diffs
pub mod Previews
pub mod Proposed
