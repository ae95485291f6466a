pub mod Figures
pub mod Ranking
pub mod Stock
