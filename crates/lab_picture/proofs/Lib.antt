mod Joined
mod Lanes
mod Plain
mod Rising
mod Whole
