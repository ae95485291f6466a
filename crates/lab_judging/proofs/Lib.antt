mod Auditing
mod Grading
mod Judging
mod WantsOrder
