mod PartyCastLemmas
pub mod PartyReadLemmas
mod RightsLemmas
