pub mod Folder
pub mod Printed
pub mod Taken
