pub mod ImageTexts
pub mod Meeting
pub mod TextLaws
pub mod WordTexts
