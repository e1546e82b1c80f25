pub mod WithRuns
