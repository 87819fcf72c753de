pub mod OneMove
pub mod OneState
