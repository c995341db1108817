-- Scripts and texts: which bytes are a script, how an operation is filled from registers, the text and the summary of a trace.
pub mod Names
pub mod Plans
pub mod Registers
pub mod Script
pub mod ScriptAddons
pub mod ScriptArguments
pub mod ScriptOperations
pub mod ScriptPaths
pub mod ScriptReading
pub mod ScriptSchedule
pub mod ScriptThreads
pub mod Summary
pub mod Text
