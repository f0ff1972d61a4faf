mod Flats
mod Flattened
mod Inserted
mod Runs
