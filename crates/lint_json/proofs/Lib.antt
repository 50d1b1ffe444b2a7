mod Elements
