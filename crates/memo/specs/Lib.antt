pub mod Buckets
pub mod Memos
pub mod Rows
pub mod Recalls
