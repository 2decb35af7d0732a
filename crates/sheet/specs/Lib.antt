pub mod Sheets
pub mod Limits
pub mod Timetables
pub mod Links
pub mod Waits
pub mod Edits
pub mod Layers
