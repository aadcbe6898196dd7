pub mod Covering
pub mod FunctionKeys
pub mod FunctionTables
pub mod KeyOrder
pub mod SegmentTables
