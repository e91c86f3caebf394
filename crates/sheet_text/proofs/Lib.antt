-- The laws of sheets, for the proofs of this crate and of those that read sheets with it.
pub mod Examples
pub mod LineLaws
pub mod GrowthLaws
pub mod BuildLaws
pub mod CompleteLaws
pub mod Theorems
pub mod DraftLaws
pub mod RepeatFinds
pub mod FoundLaws
pub mod ReadLaws
