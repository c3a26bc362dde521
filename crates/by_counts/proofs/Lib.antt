mod Computed
mod Known
mod Turned
