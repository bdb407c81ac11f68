pub mod OneWay
pub mod Membership
pub mod Prepared
