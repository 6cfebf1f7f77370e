pub mod Gathered
pub mod PartsView
pub mod ReplayLines
pub mod ReplayRuns
pub mod ReplaySteps
pub mod Transcript
