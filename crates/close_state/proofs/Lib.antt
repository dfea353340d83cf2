pub mod StatePacket
