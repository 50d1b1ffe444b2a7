mod traces
