pub mod Found
pub mod CallsOfNothing
