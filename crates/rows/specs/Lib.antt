-- The rows of a text (Rows), windows on them (Window), the walk that lists them (Walk), how it ends over true records (Fits) and over
-- any (Bounds).
pub mod Rows
pub mod Window
pub mod Walk
pub mod Fits
pub mod Bounds
