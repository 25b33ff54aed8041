-- Jobs, and the dumps and copies that they make.
pub mod CopyOut
pub mod Dump
pub mod FromEnd
pub mod Job
pub mod JobDump
pub mod Labels
pub mod Lay
pub mod Passing
pub mod Values
pub mod XxdLaws
