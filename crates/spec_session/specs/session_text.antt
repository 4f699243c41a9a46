-- A feed whose new bytes stand behind the held ones in one text: what it answers; and how far its lines have led.
pub mod Answer
pub mod Lined
