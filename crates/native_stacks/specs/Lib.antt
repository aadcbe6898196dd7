pub mod First
pub mod Stacks
pub mod Text
pub mod Threads
pub mod Trees
