pub mod Silent
pub mod Only
pub mod Replace
pub mod Settle
pub mod Settled
pub mod Paths
