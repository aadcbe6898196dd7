pub mod Plain
mod Known
mod Firsts
mod KnownTypes
mod Parts
mod Held
mod Waiting
