pub mod Adding
pub mod Index
pub mod Layouts
pub mod Piece
pub mod Scan
