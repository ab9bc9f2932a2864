mod Commands
mod Matches
