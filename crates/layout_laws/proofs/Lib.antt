mod Fullest
mod Grown
mod Named
mod Pigeonhole
