pub mod ByteLaws
pub mod BodyLaws
pub mod HeadLaws
