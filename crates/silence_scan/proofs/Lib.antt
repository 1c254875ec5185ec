mod Lanes
mod Greatest
mod Windows
mod LevelsHeard
mod Pieces
mod TalkAfter
mod Scanned
