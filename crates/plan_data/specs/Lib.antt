pub mod Named
pub mod PlanValue
