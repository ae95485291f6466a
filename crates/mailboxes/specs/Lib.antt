pub mod Mailboxes
pub mod LetterLaws
