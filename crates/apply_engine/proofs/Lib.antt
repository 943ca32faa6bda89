-- What `act` goes by: the ruling decides, and the row is settled position by position.
pub mod Rulings
pub mod Settled
