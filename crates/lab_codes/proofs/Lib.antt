mod Found
mod Joined
