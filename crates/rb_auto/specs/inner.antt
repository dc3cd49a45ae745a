pub mod Graphs
pub mod Settling
pub mod Standing
pub mod Rules
pub mod PackedRules
pub mod HoldingRules
