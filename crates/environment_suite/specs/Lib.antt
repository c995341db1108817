pub mod ThreadTests
