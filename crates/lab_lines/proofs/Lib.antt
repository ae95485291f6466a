mod Lines
mod OnePass
mod Ordered
