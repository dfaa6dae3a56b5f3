mod Each
mod FirstEntries
mod Alignment
mod Behind
mod Tried
mod Search
