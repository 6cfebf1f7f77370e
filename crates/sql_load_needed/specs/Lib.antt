pub mod LookUpLaws
pub mod LookUpSteps
pub mod MeetingParts
