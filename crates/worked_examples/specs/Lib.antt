pub mod Given
pub mod GraftExamples
pub mod AskExamples
pub mod WaitingExamples
pub mod RunExamples
pub mod PortExamples
pub mod StreamExamples
pub mod KeptExamples
