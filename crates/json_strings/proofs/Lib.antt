pub mod WideLaws
