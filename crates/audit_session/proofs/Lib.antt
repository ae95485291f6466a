mod Lines
mod Booting
mod Placing
mod Running
