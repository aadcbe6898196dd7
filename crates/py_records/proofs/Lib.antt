pub mod Judging
pub mod FlawLists
pub mod Filing
pub mod Answering
pub mod Versioning
pub mod Soundness
pub mod KeyLists
