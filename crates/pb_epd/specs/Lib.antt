pub mod Run
pub mod Token
pub mod Lexeme
pub mod Operation
pub mod ByteOrder
pub mod Epd
pub mod Refusal
pub mod Reading
