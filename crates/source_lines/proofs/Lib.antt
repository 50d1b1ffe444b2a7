mod lines
