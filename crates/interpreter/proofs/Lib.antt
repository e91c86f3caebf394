pub mod ExecLaws
pub mod CommandLaws
pub mod RunLaws
