pub mod sets_left
