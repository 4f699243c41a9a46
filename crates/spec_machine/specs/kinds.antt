-- The kinds of captions: what a line says in each, and how a session keeps what is known between two lines.
pub mod Takes
pub mod Kit
