pub mod Carried
pub mod Pieces
pub mod Received
pub mod WholeReplies
