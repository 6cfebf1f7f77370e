mod CrashedOfficeLaws
pub mod OfficeHomeLemmas
mod OfficeRunLaws
