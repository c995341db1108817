pub mod BufferTables
pub mod KeptBuffers
