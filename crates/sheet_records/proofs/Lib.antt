pub mod KindLaws
pub mod StandingLaws
