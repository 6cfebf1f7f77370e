mod HiddenChanges
mod HiddenOffices
mod HiddenParties
mod PartyLemmas
mod RunsDeskLemmas
pub mod RunsListLemmas
mod RunsFoundLemmas
mod RunsOfficeLemmas
mod RunsPartLemmas
mod RunsRunLemmas
mod SecretRuns
mod SecretSteps
mod WrongCloses
mod WrongRuns
