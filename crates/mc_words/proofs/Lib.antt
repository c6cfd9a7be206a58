pub mod Escaped
pub mod Readings
pub mod BodyWords
pub mod FieldWords
pub mod RequestWords
pub mod ReplyWords
pub mod PrintedWords
pub mod WholeWords
