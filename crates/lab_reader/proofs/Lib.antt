mod Finding
mod Joining
