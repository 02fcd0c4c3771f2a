pub mod County
pub mod Files
