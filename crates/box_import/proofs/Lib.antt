pub mod DigitLemmas
pub mod BetweenLemmas
pub mod NearLemmas
pub mod SignLemmas
pub mod ScaledLemmas
pub mod RowLemmas
