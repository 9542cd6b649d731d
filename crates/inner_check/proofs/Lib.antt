pub mod NoDivision
pub mod QuickLook
