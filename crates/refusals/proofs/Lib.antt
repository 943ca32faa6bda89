-- What is shown of the refusals' numbers.
pub mod Numbers
