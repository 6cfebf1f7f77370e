pub mod AskedOffice
pub mod HttpAnswers
pub mod Served
