pub mod Binding
pub mod Literals
pub mod LookedUp
pub mod Meanings
pub mod Refusing
pub mod Scopes
