-- The files of definitions.
pub mod Lines
pub mod Numbers
pub mod Meanings
pub mod Entries
pub mod Said
pub mod Usages
pub mod Reading
pub mod Pending
