-- The structure of ASS lines: columns, fields, sections.
pub mod Columns
pub mod Section
