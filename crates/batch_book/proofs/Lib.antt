mod Common
mod Placed
mod Queued
