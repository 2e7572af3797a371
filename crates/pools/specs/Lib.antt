-- What the crate's contracts cite, SPEC 7; `PoolInternal` is for its private functions.
pub mod Pool
pub mod View
pub mod PoolAnswers
pub mod PoolInternal
