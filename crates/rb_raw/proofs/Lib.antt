pub mod HeldLemmas
pub mod MarkLemmas
pub mod RawLemmas
