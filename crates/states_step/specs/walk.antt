-- What the code computes on the table of parts, case by case, and what it shows of the machine: cited by inner
-- contracts only.
pub mod Store
pub mod Down
pub mod Step
pub mod Shows
