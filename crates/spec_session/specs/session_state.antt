-- The session as it is kept between two calls, the model's session that it stands for, and 17.
pub mod View
pub mod Head
