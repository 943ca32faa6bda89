-- What is shown of the demand beside the functions' contracts.
pub mod Order
pub mod Obeyed
pub mod Gathering
pub mod Rising
