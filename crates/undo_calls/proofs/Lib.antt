mod Cuts
mod Ages
mod Logs
