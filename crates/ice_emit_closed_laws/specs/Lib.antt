pub mod ClosedPlans
