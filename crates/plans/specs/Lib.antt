pub mod Planned
pub mod PlanMount
pub mod PlanSweep
