pub mod Faults
pub mod Submission
pub mod SubmissionFaults
pub mod Task
