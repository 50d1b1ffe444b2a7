mod points
mod sets
mod texts
mod control
