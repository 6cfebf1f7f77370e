pub mod OneOffice
pub mod OneOfficeLaws
