pub mod Framed
pub mod HeadEnd
pub mod ReaderState
pub mod Looks
pub mod Standings
