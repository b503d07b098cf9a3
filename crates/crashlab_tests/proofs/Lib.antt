mod Pours
mod Movers
