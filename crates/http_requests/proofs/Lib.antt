mod CameLemmas
mod RequestBodyLemmas
mod RequestLawLemmas
mod SpellLemmas
