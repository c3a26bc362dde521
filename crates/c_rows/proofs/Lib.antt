mod EvenCount
mod Putting
mod RowBytes
