-- What the crate's contracts cite, SPEC 6; `PlanInternal` is for its private functions, and `PlanOrder`, `OnePass` and `Carried` are for theorems alone.
pub mod PlanLine
pub mod PlanOrder
pub mod Walk
pub mod OnePass
pub mod Carried
pub mod Placing
pub mod PlanLists
pub mod Entries
pub mod KeyLine
pub mod PlanNumbers
pub mod Plan
pub mod PlanInternal
