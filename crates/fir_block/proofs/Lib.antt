mod Counts
mod Names
mod Readable
mod Remainder
