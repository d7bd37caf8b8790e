mod Histories
mod LineTold
mod Bursts
mod Sections
mod Visits
mod SectionTurns
pub mod SectionSteps
pub mod Compiled
pub mod AnswersKept
pub mod ArrivedTurns
pub mod ArrivedSteps
pub mod ArrivedFields
pub mod PlacedLines
pub mod PlacedTurns
pub mod PlacedSteps
pub mod PlacedRows
pub mod StandingRows
pub mod SectionRuns
