-- The files of definitions.
pub mod Keeping
pub mod Asking
pub mod Calls
pub mod Fetching
pub mod Outlining
pub mod Parts
pub mod RollingBack
