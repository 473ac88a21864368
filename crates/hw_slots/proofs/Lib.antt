mod Tallies
mod Steps
mod Totals
