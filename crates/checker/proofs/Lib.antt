pub mod BindingLaws
pub mod ExprLaws
pub mod CmdLaws
pub mod TypeLaws
pub mod LabelLaws
pub mod Verdicts
