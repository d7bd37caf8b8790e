pub mod ReadBack
pub mod Records
pub mod StreamFiles
pub mod FirstFaults
pub mod FaultyStreams
pub mod Judging
pub mod Fields
pub mod Readings
pub mod Faults
pub mod Spellings
pub mod LateFaults
pub mod FreshChunks
pub mod FreshSpans
mod Longest
