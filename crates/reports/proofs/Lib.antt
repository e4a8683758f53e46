mod Digits
mod Commas
mod Values
mod Passing
mod Gathered
mod Telling
