pub mod PartyRowListLemmas
