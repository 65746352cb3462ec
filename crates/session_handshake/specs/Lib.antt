pub mod Exchanges
pub mod Connections
pub mod Answering
