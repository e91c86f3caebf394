pub mod MemberLaws
pub mod FlowLaws
pub mod ConfidentialityLaws
pub mod WalkLaws
