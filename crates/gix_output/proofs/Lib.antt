-- What a text says, by whether it is UTF-8.
pub mod Texts
-- What a line says has no float.
pub mod Integers
-- JSON in its shortest form holds no newline.
pub mod OneLine
-- How deep the JSON of a line nests.
pub mod Nesting
-- What is quoted holds no command of a terminal.
pub mod Harmless
-- What a writer of JSON has written with each piece that it was given.
pub mod Written
-- A text in pieces is quoted as in one.
pub mod Pieces
