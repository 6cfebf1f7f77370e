pub mod ReceivedRequests
pub mod RequestOfHead
pub mod RequestUniqueness
