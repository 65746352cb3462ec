pub mod Numbers
pub mod Pages
pub mod Written
pub mod Steps
