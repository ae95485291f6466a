mod Encoding
mod Lengths
