pub mod Contents
pub mod Listings
pub mod OrderedMaps
pub mod PropertyMaps
pub mod StoreChanges
pub mod Walks
