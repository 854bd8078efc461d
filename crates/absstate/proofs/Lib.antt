mod Releasing
mod Same
