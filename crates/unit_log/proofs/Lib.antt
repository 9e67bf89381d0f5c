mod Lanes
mod Took
mod Gave
