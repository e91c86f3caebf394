pub mod ValueLaws
pub mod StateLaws
pub mod NodeLaws
pub mod EvalLaws
