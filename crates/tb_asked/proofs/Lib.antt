mod LastSigns
mod Repeats
mod TypesGiven
mod WholeNames
