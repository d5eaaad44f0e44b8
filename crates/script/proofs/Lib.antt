mod Checking
mod Taking
mod Ending
