mod Answering
pub mod Booked
mod Collected
mod Failures
mod Gaining
mod GamesHeld
pub mod Journals
mod LinesPut
pub mod Lasting
pub mod Loaded
mod Picked
pub mod Replayed
pub mod SavedLoading
mod Torn
