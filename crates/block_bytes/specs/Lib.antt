-- The files of definitions, and of the lemmas that callers cite.
pub mod Numbers
pub mod Laws
pub mod Kinds
pub mod Places
pub mod PlaceLaws
pub mod Forms
pub mod FormLaws
