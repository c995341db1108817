mod Numbers
mod EnvironmentTurns
mod SharedScriptHubs
