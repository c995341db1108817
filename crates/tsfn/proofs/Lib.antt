mod BusyHeaps
mod ClosedFronts
mod FirstMoves
mod FunctionChanges
mod NumberedFunctions
mod Totals
mod PlacedFunctions
