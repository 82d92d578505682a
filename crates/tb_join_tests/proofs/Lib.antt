mod Rising
mod Sides
