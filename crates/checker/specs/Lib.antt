-- What the functions of questions 6 and 7 promise each other. The check's own promise is `Checked` of the crate `grammar`.
pub mod Stars
