mod ItemLists
mod Moves
mod Looks
mod Orders
