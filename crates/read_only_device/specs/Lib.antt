pub mod ReadOnly
