pub mod Reports
pub mod Streams
pub mod Buffered
pub mod Causes
