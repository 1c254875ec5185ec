mod AnchorLaws
pub mod Fronts
mod KeyLaws
mod Keys
mod LineLaws
mod Lines
mod Listed
