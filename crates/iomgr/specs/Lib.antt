pub mod Numbers
pub mod Table
pub mod Slots
pub mod PacketList
pub mod Buckets
pub mod Walk
pub mod Lending
pub mod Hold
