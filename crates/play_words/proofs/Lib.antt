pub mod ShowPlay
pub mod WalkingPlays
pub mod SearchingPlays
