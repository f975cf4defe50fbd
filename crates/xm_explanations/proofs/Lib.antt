mod Firsts
mod Known
mod Pushes
mod Runs
