-- What the reader of a map's JSON answers: its number, and what stands in the lent places.
pub mod MapRead
