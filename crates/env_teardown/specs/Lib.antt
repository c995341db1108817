pub mod TeardownSteps
