-- What is shown of the listing in lent bytes beside the functions' contracts.
pub mod Told
