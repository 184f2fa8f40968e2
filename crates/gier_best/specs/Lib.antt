pub mod Plan
pub mod Changes
pub mod TraceModel
pub mod PlannerState
