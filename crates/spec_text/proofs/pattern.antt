pub mod Laws
pub mod PieceLaws
pub mod Free
