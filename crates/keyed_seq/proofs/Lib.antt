pub mod StoredPlaces
pub mod KeyedPlaceLemmas
