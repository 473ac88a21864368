mod Alike
mod Ranges
mod Ranks
mod WorkerFindings
mod Worth
