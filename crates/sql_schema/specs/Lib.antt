pub mod Contents
pub mod CopiedRows
pub mod SqlTexts
pub mod Statements
pub mod Tables
