mod lists
