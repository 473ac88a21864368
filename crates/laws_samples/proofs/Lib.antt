mod Blocks
mod Columns
mod EdgeEnds
mod Periods
mod Rounds
mod Widths
