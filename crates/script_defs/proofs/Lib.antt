pub mod PartEnds
pub mod StatementsFound
pub mod StatementsRead
pub mod StatementsWritten
