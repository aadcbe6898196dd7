pub mod Joined
pub mod Files
pub mod Slim
