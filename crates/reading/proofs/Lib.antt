-- Laws of the code's own.
mod Readings
