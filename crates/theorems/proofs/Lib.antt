-- What is promised beyond the contracts, in files named for what they promise; docs/PROOFS.md leads to each theorem.
pub mod Numbers
pub mod Values
pub mod ChannelLists
pub mod Plans
pub mod Pools
pub mod Bytes
pub mod Receiver
pub mod Tuners
pub mod Console
pub mod FunctionsForC
pub mod Examples
