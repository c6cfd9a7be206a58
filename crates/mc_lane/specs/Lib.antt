pub mod Lanes
pub mod Laws
pub mod MemoryStreams
pub mod Receiving
pub mod Sending
pub mod Streams
pub mod Traffic
pub mod Wires
