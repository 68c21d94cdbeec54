-- The files of definitions.
pub mod Faults
pub mod Checked
pub mod Starting
pub mod Representation
pub mod Commands
pub mod Calls
