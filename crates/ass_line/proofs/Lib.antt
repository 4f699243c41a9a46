pub mod LineForms
