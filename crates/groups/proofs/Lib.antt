-- The laws of smallest groups, for the proofs of this crate and of those above it.
pub mod SmallestLaws
pub mod PastLaws
pub mod ListLaws
pub mod RuleLaws
pub mod SingleLaws
pub mod WalkLaws
pub mod LoopLaws
pub mod ReaderLaws
pub mod StageLaws
