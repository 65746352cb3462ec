pub mod StepLaws
pub mod SetLaws
