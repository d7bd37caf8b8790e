mod Pieces
mod Appending
mod Judging
