pub mod Addons
