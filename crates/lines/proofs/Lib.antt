mod Worths
mod Splitting
mod Parts
