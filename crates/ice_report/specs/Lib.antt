pub mod Lines
pub mod PinReport
pub mod RouteReport
pub mod Summary
