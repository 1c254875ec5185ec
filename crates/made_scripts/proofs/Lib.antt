mod Texts
mod Named
mod Drawn
mod Mentioned
mod Said
mod Reading
