pub mod Machine
pub mod Claim
pub mod Refusals
pub mod Withdrawn
