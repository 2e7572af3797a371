-- Laws of lists: tests, elements, members, the pigeonhole, and lists that their first refusal decides.
pub mod Laws
pub mod Pigeonhole
pub mod FirstRefusal
