pub mod StageLaws
pub mod Kept
