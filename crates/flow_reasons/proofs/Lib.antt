mod lists
mod meetings
mod searches
