-- What the code computes and keeps, cited by inner contracts only.
pub mod Deciding
