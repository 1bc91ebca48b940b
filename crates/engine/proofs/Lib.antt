pub mod Faults
pub mod Deleting
pub mod Deleted
pub mod Listing
pub mod Answering
pub mod Sharing
pub mod Serving
