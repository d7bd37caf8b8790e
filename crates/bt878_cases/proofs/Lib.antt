mod Fronts
mod Names
