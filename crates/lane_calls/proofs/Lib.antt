pub mod Addressed
pub mod Asked
pub mod Counting
pub mod HeldAgain
pub mod LetGo
pub mod Served
pub mod Residing
pub mod Showing
