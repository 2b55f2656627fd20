pub mod CountedRound
pub mod Places
