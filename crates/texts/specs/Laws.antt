-- Proved facts of texts.
pub mod Choices
pub mod Pieces
pub mod Numbers
pub mod Rooms
pub mod Words
pub mod Walks
pub mod Texts
pub mod Asked
