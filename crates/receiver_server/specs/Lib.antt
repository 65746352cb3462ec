pub mod Hearings
pub mod Incomings
pub mod Answers
pub mod Listenings
