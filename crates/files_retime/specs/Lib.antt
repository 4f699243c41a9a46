pub mod Retimed
