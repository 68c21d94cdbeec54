pub mod Anew
pub mod OpeningStops
