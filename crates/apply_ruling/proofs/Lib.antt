-- What is shown of rulings beside the functions' contracts.
pub mod Bars
pub mod Seats
pub mod Views
