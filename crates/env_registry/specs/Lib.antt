pub mod Beginning
pub mod Instancing
pub mod KeptRegistry
pub mod Registering
