mod Applied
mod Rising
mod Rooms
mod Stamped
