mod Climbing
mod Completing
pub mod EachLoops
mod Exact
pub mod ExpressionForms
pub mod ExpressionNode
pub mod FileLemmas
pub mod FileReading
pub mod FormLaws
pub mod Forms
pub mod ItemForms
pub mod LeafForms
mod LimitExamples
pub mod LimitLemmas
pub mod ListForms
pub mod LocationForms
pub mod Loops
pub mod NodeForms
mod Numbering
pub mod OneAnswer
pub mod Open
mod OpenExamples
pub mod PatternForms
pub mod Pointers
pub mod Sameness
mod Steps
pub mod Taking
pub mod TokenForms
pub mod TreeForms
pub mod TypeForms
