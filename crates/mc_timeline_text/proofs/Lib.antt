pub mod ClientLines
pub mod TailLines
pub mod TextLines
pub mod PrintedMoves
