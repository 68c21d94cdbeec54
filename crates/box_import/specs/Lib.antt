pub mod Decimals
pub mod Extents
pub mod NumberErrors
pub mod Rows
