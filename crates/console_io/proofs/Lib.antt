mod Streams
mod Turns
mod Bytes
