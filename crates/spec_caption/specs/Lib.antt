pub mod caption_fate
