pub mod EqualLaws
pub mod FilterSteps
pub mod EnterLaws
