-- What tests ask, of slots, netlists and operations.
pub mod GatherTests
pub mod NetTests
pub mod OperationTests
