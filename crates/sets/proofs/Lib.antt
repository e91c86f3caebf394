pub mod Walks
pub mod SetLaws
pub mod MeaningLaws
