mod Bound
mod Equal
mod Firsts
mod Matches
mod Near
mod Puts
mod Sides
mod Steps
