-- The files of definitions.
pub mod Standing
pub mod Rooted
pub mod StandingLaws
pub mod Parts
pub mod Changes
pub mod Lists
pub mod Faults
pub mod Visits
pub mod Checked
