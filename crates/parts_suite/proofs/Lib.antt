pub mod BareBuffers
pub mod FewItems
pub mod HubsGoOn
pub mod ManyPromises
