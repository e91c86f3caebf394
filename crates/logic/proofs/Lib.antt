pub mod BooleanLaws
pub mod OptionLaws
