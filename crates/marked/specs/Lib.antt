pub mod Images
pub mod Sessions
pub mod Cases
