pub mod Endings
pub mod Lines
pub mod Names
pub mod LineParts
pub mod PagePlaces
pub mod ScriptStands
pub mod World
