mod CutLemmas
mod Examples
pub mod ExpressionInduction
pub mod LayoutSpelling
mod FrontLemmas
mod LexLemmas
mod ListLemmas
mod LongestLemmas
pub mod PatternInduction
mod PieceLemmas
pub mod SpellingLemmas
pub mod SplitInduction
mod SymbolLemmas
mod TokenLemmas
pub mod WordBytes
