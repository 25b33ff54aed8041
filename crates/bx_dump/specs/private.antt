-- What the functions of this crate need among themselves.
pub mod Chars
pub mod Dumped
pub mod FoldBy
pub mod Hexdump
pub mod OdDump
pub mod Pages
pub mod Rows
pub mod Runs
pub mod Scan
pub mod Strings
pub mod Styles
pub mod Xxd
pub mod XxdDump
pub mod Zeros
