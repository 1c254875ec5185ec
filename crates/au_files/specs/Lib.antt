pub mod Au
