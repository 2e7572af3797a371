-- Laws of the definitions, and the theorems about them.
pub mod Lists
pub mod ChannelLists
pub mod Values
pub mod Records
