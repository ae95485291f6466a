mod Adding
mod Asking
mod Drawing
