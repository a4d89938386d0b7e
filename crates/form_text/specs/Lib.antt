pub mod Name
pub mod Field
pub mod Form
