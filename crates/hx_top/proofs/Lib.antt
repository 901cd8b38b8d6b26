mod Settings
mod TooLong
mod Played
mod Guarded
mod Served
mod LastLife
mod Closing
mod Ending
