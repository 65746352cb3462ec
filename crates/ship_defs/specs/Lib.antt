pub mod Directions
pub mod Hearing
pub mod Greeting
pub mod Shipping
pub mod Arrivals
