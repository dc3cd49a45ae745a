pub mod DigitLemmas
pub mod GoLemmas
pub mod PlaceLemmas
pub mod ReadLemmas
pub mod RunLemmas
pub mod StepLemmas
pub mod StopLemmas
