mod sets
