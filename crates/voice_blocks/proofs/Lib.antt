pub mod BitLemmas
pub mod Places
pub mod SoundLemmas
pub mod TakeLemmas
pub mod DropLemmas
pub mod MoveLemmas
pub mod Apart
