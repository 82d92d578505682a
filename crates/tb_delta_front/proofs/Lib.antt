pub mod FirstLines
pub mod ChangesTable
pub mod KeptSteps
pub mod StepLines
pub mod StepRows
pub mod KeptJoins
pub mod KeptEnds
