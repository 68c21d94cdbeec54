pub mod CallLemmas
pub mod DoneLemmas
pub mod EndLemmas
