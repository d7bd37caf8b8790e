pub mod StreamBeginnings
pub mod StreamSpellings
pub mod WorkedStreams
pub mod ProgramBeginnings
pub mod ProgramRoom
pub mod SpelledPrograms
pub mod WorkedPrograms
