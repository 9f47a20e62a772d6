pub mod Answers
pub mod Accepts
pub mod Metered
pub mod Made
pub mod Costs
pub mod Lemmas
