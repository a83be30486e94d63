pub mod Draws
pub mod DeskStands
pub mod Openings
