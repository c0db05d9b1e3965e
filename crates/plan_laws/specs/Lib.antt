pub mod Ends
pub mod Right
pub mod Manifests
pub mod Explained
