pub mod KeptPromises
pub mod PromiseRows
