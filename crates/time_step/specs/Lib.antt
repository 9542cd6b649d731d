pub mod StepsInRows
