pub mod BusyPlaces
pub mod FunctionList
pub mod FunctionMoves
pub mod KeptFunction
pub mod KeptFunctions
pub mod Trials
