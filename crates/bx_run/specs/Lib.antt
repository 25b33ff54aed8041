pub mod forget
pub mod renew
pub mod run
pub mod History
pub mod Laws
pub mod Loss
