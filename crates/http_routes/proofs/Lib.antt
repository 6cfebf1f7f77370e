pub mod RouteChained
mod PhraseLemmas
mod TargetLemmas
mod VerbLemmas
