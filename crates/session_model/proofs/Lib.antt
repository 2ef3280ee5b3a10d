pub mod Fronts
pub mod Cuts
pub mod Datagrams
pub mod Arrived
pub mod Places
pub mod Taking
