pub mod Conflicts
pub mod Etags
