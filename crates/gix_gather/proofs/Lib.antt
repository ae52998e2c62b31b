-- Objects that stay where another is put in.
mod Kept
