pub mod Counters
pub mod CounterLaws
pub mod Laws
pub mod Claims
