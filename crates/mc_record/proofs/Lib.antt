mod Fronts
mod Starts
