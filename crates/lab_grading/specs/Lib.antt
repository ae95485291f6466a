pub mod Graded
