pub mod Origins
pub mod code
