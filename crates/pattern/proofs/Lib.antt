pub mod StdLaws
