pub mod CounterSteps
