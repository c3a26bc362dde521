mod Standing
mod Marks
mod Appearing
