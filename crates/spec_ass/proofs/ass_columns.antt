pub mod ColumnLaws
pub mod SectionLaws
pub mod FieldLaws
pub mod Vectors
pub mod SectionRows
