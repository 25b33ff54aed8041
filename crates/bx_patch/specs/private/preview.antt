-- What the room of previews needs among itself.
pub mod Window
pub mod Untouched
pub mod Order
