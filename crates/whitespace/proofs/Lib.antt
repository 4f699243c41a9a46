pub mod EmptyLaws
