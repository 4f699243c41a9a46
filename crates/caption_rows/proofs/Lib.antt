pub mod RowForms
