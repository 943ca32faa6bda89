-- What a reader has to believe of the listing: its words, letter by letter, its lines, and then the whole of it.
pub mod Letters
pub mod Words
pub mod Fields
pub mod TaskLines
pub mod TableLines
pub mod EventLines
pub mod RefusalLines
pub mod LogLines
pub mod Listing
