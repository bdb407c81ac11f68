pub mod SameBut
pub mod Untracked
